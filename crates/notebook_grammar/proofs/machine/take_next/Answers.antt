use Rattle.std.proofs.Common.{◌∷◌, refl, ap, ◌∙◌}
use Rattle.notebook_grammar.proofs.Stacks.{next_done, next_here, next_inside, skipped}
use Rattle.notebook_grammar.proofs.machine.take_next.Goals as goal

pub returns-in-Here : goal.returns-in-Here
returns-in-Here c =
    next_here c.args.stack.now.items c.loop-frame.stack.items c.pop.new.self.items c.push.new.self.items c.in-Some.frame _ c.loop-frame.invariant.0 c.loop-frame.invariant.1 c.in-Some.ensures.items c.in_ok-push.ensures.items refl c.in-Here.rule (c.in-Some-split_first.ensures.cases.0 ∙ ap (λ x. x ∷ c.in-Some-split_first.rest.now) c.in-Here.is)

pub returns-in-Do : goal.returns-in-Do
returns-in-Do c =
    next_done c.args.stack.now.items c.loop-frame.stack.items c.pop.new.self.items c.push.new.self.items c.in-Some.frame _ c.loop-frame.invariant.0 c.loop-frame.invariant.1 c.in-Some.ensures.items c.in_ok-push.ensures.items refl c.in-Do.action (c.in-Some-split_first.ensures.cases.0 ∙ ap (λ x. x ∷ c.in-Some-split_first.rest.now) c.in-Do.is)

pub returns-in-Inside : goal.returns-in-Inside
returns-in-Inside c =
    next_inside c.args.stack.now.items c.loop-frame.stack.items c.pop.new.self.items c.push.new.self.items c.in-Some.frame _ c.loop-frame.invariant.0 c.loop-frame.invariant.1 c.in-Some.ensures.items c.in_ok-push.ensures.items refl c.in-Inside.rule c.saturating_sub.result c.saturating_sub.ensures (c.in-Some-split_first.ensures.cases.0 ∙ ap (λ x. x ∷ c.in-Some-split_first.rest.now) c.in-Inside.is)

pub loop-frame-preserved : goal.loop-frame-preserved
loop-frame-preserved c = skipped _ c.loop-frame.stack.items c.pop.new.self.items c.in-Some.frame c.loop-frame.invariant.0 c.loop-frame.invariant.1 c.in-Some.ensures.items c.in_default-split_first.ensures.cases
