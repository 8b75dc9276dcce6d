-- A character that stays goes on as `Doubled` says.
use Rattle.std.proofs.Common.{◌≡◌, false, ◌++◌, ap, ◌∙◌}
use Rattle.std.specs.Prelude.{◌==◌}
use Rattle.std.specs.Str.Iter.{chars_rest}
use Rattle.expr_parse.specs.Values.{undoubled}
use Rattle.expr_parse.proofs.Doubled.{stays_so}
use Rattle.expr_parse.proofs.values.undoubled.Goals as goal
use Rattle.expr_parse.proofs.values.undoubled.Goals.{else-c-eq39-via-then-c-eq39+else-after, else-c-eq39-via-else-c-eq39}

pub loop-c-preserved : goal.loop-c-preserved
loop-c-preserved c =
    let next = c.in-Some.ensures.steps in
    let first : c.in-Some.c ≡ 39 → c.loop-c.after ≡ false =
    elim c.else-c-eq39.branch [
      | else-c-eq39-via-then-c-eq39+else-after w ↦ λ is. w.if-after.false
      | else-c-eq39-via-else-c-eq39 w ↦ λ is. absurd (w.if-c-eq39.false is)
    ] in
    ap (λ x. x ++ undoubled (c.in-Some.c == 39) (chars_rest c.next.new.self)) c.in_ok-push_char.ensures.ok
    ∙ stays_so (undoubled false c.args.text.now) c.loop-c.words c.loop-c.after c.in-Some.c (chars_rest c.loop-c.c-iterator) (chars_rest c.next.new.self) c.loop-c.invariant first next.0
