use Rattle.std.proofs.Common.{[], subst, arith}
use Rattle.notebook_grammar.specs.Lexemes.{LexemesFrom, ends, stray}
use Rattle.notebook_grammar.proofs.Cutting.{append_none, at_token, more_lexemes, last_lexeme, ends_within}
use Rattle.notebook_grammar.proofs.lexeme.lexemes.Goals as goal

pub returns-then-at-text : goal.returns-then-at-text
returns-then-at-text c =
    let l = c.loop-at in subst (λ x. LexemesFrom c.args.text.now 0 0 x) (append_none l.made.items) (l.invariant.1 [] (c.skip_blanks-at.ensures.lexemes l.calls [] (ends c.if-at-text.true)))

pub returns-in_default : goal.returns-in_default
returns-in_default c =
    let l = c.loop-at in let k = c.skip_blanks-at.ensures in let at = c.skip_blanks-at.result in
    let b = k.next (omega (arith, c.if-at-text.false, k.within)) in
    last_lexeme c.args.text.now l.made.items c.push.new.self.items _ c.in_ok-push.ensures.items (l.invariant.1 _ (k.lexemes l.calls _ (stray b.1 b.2 c.in_default.ensures)))

pub loop-at-preserved : goal.loop-at-preserved
loop-at-preserved c =
    let l = c.loop-at in let text = c.args.text.now in let k = c.skip_blanks-at.ensures in let t = c.in-Some.token in let e = c.in-Some.ensures in let at = c.skip_blanks-at.result in
    let w = ends_within text l.calls at t e.0 e.1 k.within (omega (arith, k.forward, l.invariant.2)) in (
      w.0,
      λ ls d. more_lexemes text l.made.items c.push-in-loop-at.new.self.items t ls c.in_ok-push-2.ensures.items (l.invariant.1 _ (k.lexemes l.calls _ (at_token text at l.calls t e.0 e.1 ls d))),
      w.1,
    )
