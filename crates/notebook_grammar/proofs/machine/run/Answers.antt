use Rattle.std.proofs.Common.{◌+◌, Some, ◌≤◌, IfSome, ap, ◌∙◌, sym, subst, arith}
use Rattle.notebook_grammar.specs.declared.machine.Next.TheVariants.{End, Done, Goal}
use Rattle.notebook_grammar.specs.declared.machine.Choice.TheVariants.{Take, Go, Stop}
use Rattle.notebook_grammar.specs.Machine.{IsChoice}
use Rattle.notebook_grammar.proofs.Going.{Going, turn_go, turn_take, acts_so, too_long, all_read, stuck_here, count_did, count_took, too_many, few_more, few_still}
use Rattle.notebook_grammar.proofs.Stacks.{next_is}
use Rattle.notebook_grammar.proofs.machine.run.Goals as goal

pub returns-in-End : goal.returns-in-End
returns-in-End c =
    let l = c.loop-stack in
    too_long c.args.start c.args.lexemes.now l.at l.stack.items l.steps l.count l.invariant.1 (next_is l.stack.items c.take_next.new.stack.items c.in_ok-take_next.field-0 (End) c.in-End.is c.in_ok-take_next.ensures) c.if-at-lexemes.true l.invariant.0

pub returns-in-End-2 : goal.returns-in-End-2
returns-in-End-2 c =
    let l = c.loop-stack in (
      all_read c.args.start c.args.lexemes.now l.at l.stack.items l.steps (next_is l.stack.items c.take_next.new.stack.items c.in_ok-take_next.field-0 (End) c.in-End-2.is c.in_ok-take_next.ensures) c.if-at-lexemes.false l.invariant.0,
      (l.count, l.invariant.1),
    )

pub loop-stack-preserved-in-Done : goal.loop-stack-preserved-in-Done
loop-stack-preserved-in-Done c =
    let l = c.loop-stack in
    let i = l.invariant in
    let n = next_is l.stack.items c.take_next.new.stack.items c.in_ok-take_next.field-0 (Done c.in-Done.action) c.in-Done.is c.in_ok-take_next.ensures in (
      subst (λ x. Going c.args.start c.args.lexemes.now l.at c.take_next.new.stack.items x) (sym c.in_ok-push-in-Done.ensures.ok) (acts_so c.args.start c.args.lexemes.now l.at l.stack.items c.take_next.new.stack.items l.steps c.in-Done.action n i.0),
      count_did l.count l.steps c.push-in-Done.new.self c.in-Done.action i.1 c.in_ok-push-in-Done.ensures.ok ∙ ap (λ x. Some x) (sym c.after-count.ensures),
      subst (λ o. IfSome o (λ n. n ≤ 1000)) (sym c.after-count.ensures) (few_still c.in-Done.action l.count i.2),
    )

pub returns-then-is_full : goal.returns-then-is_full
returns-then-is_full c =
    let l = c.loop-stack in
    let i = l.invariant in
    let n = next_is l.stack.items c.take_next.new.stack.items c.in_ok-take_next.field-0 (Goal c.in-Goal.rule c.in-Goal.room) c.in-Goal.is c.in_ok-take_next.ensures in
    too_many c.args.start c.args.lexemes.now l.at l.stack.items c.take_next.new.stack.items l.steps c.in-Goal.rule c.in-Goal.room c.in-Take.lexeme l.count n c.in-Take.items
    (subst (λ o. IsChoice c.in-Goal.rule c.in-Goal.room o (Take c.in-Take.lexeme c.in-Take.items)) c.lexeme_at.ensures c.in-Take.ensures) i.1 (sym c.is_full.ensures ∙ c.if-is_full.true) i.0

pub loop-stack-smaller-in-Continue-branch-7 : goal.loop-stack-smaller-in-Continue-branch-7
loop-stack-smaller-in-Continue-branch-7 c =
    let l = c.loop-stack in
    let n = next_is l.stack.items c.take_next.new.stack.items c.in_ok-take_next.field-0 (Goal c.in-Goal.rule c.in-Goal.room) c.in-Goal.is c.in_ok-take_next.ensures in
    let t = turn_take c.args.start c.args.lexemes.now l.at l.stack.items c.take_next.new.stack.items c.push-in-Take-2.new.self.items (record { rest = c.in-Take.items; room = c.in-Goal.room }) l.steps c.in-Goal.rule n c.in_ok-push-in-Take-2.ensures.items l.invariant.0 c.in-Take.lexeme
    (subst (λ o. IsChoice c.in-Goal.rule c.in-Goal.room o (Take c.in-Take.lexeme c.in-Take.items)) c.lexeme_at.ensures c.in-Take.ensures) in
    let less = t.1 in
    let below = t.2 in
    omega arith

pub loop-stack-preserved-in-Continue-branch-7 : goal.loop-stack-preserved-in-Continue-branch-7
loop-stack-preserved-in-Continue-branch-7 c =
    let l = c.loop-stack in
    let i = l.invariant in
    let n = next_is l.stack.items c.take_next.new.stack.items c.in_ok-take_next.field-0 (Goal c.in-Goal.rule c.in-Goal.room) c.in-Goal.is c.in_ok-take_next.ensures in
    let t = turn_take c.args.start c.args.lexemes.now l.at l.stack.items c.take_next.new.stack.items c.push-in-Take-2.new.self.items (record { rest = c.in-Take.items; room = c.in-Goal.room }) l.steps c.in-Goal.rule n c.in_ok-push-in-Take-2.ensures.items i.0 c.in-Take.lexeme
    (subst (λ o. IsChoice c.in-Goal.rule c.in-Goal.room o (Take c.in-Take.lexeme c.in-Take.items)) c.lexeme_at.ensures c.in-Take.ensures) in (
      subst (λ x. Going c.args.start c.args.lexemes.now (l.at + 1) c.push-in-Take-2.new.self.items x) (sym c.in_ok-push-in-Take.ensures.ok) t.0,
      count_took l.count l.steps c.push-in-Take.new.self c.in-Take.lexeme i.1 (sym c.is_full.ensures ∙ c.if-is_full.false) c.in_ok-push-in-Take.ensures.ok ∙ ap (λ x. Some x) (sym c.more-count.ensures),
      few_more l.count c.more-count.result i.2 (sym c.is_full.ensures ∙ c.if-is_full.false) c.more-count.ensures,
    )

pub loop-stack-smaller : goal.loop-stack-smaller
loop-stack-smaller c =
    let l = c.loop-stack in
    let n = next_is l.stack.items c.take_next.new.stack.items c.in_ok-take_next.field-0 (Goal c.in-Goal.rule c.in-Goal.room) c.in-Goal.is c.in_ok-take_next.ensures in
    let t = turn_go c.args.start c.args.lexemes.now l.at l.stack.items c.take_next.new.stack.items c.push-in-Go.new.self.items (record { rest = c.in-Go.items; room = c.in-Goal.room }) l.steps c.in-Goal.rule n c.in_ok-push-in-Go.ensures.items l.invariant.0
    (subst (λ o. IsChoice c.in-Goal.rule c.in-Goal.room o (Go c.in-Go.items)) c.lexeme_at.ensures c.in-Go.ensures) in
    let less = t.1 in
    omega arith

pub loop-stack-preserved : goal.loop-stack-preserved
loop-stack-preserved c =
    let l = c.loop-stack in
    let i = l.invariant in
    let n = next_is l.stack.items c.take_next.new.stack.items c.in_ok-take_next.field-0 (Goal c.in-Goal.rule c.in-Goal.room) c.in-Goal.is c.in_ok-take_next.ensures in (
      (turn_go c.args.start c.args.lexemes.now l.at l.stack.items c.take_next.new.stack.items c.push-in-Go.new.self.items (record { rest = c.in-Go.items; room = c.in-Goal.room }) l.steps c.in-Goal.rule n c.in_ok-push-in-Go.ensures.items i.0
          (subst (λ o. IsChoice c.in-Goal.rule c.in-Goal.room o (Go c.in-Go.items)) c.lexeme_at.ensures c.in-Go.ensures)).0,
      i.1,
      i.2,
    )

pub returns-in-Stop : goal.returns-in-Stop
returns-in-Stop c =
    let l = c.loop-stack in
    let n = next_is l.stack.items c.take_next.new.stack.items c.in_ok-take_next.field-0 (Goal c.in-Goal.rule c.in-Goal.room) c.in-Goal.is c.in_ok-take_next.ensures in
    stuck_here c.args.start c.args.lexemes.now l.at l.stack.items c.take_next.new.stack.items l.steps c.in-Goal.rule c.in-Goal.room l.count l.invariant.1 n
    (subst (λ o. IsChoice c.in-Goal.rule c.in-Goal.room o (Stop)) c.lexeme_at.ensures c.in-Stop.ensures) l.invariant.0
