use Rattle.std.proofs.Common.{◌++◌, ap, append_assoc, ◌∙◌}
use Rattle.expr_ops.proofs.Following.{one_turn}
use Rattle.expr_ops.proofs.pattern.one_on.Goals as goal

pub loop-place-preserved : goal.loop-place-preserved
loop-place-preserved c =
    rw (c.in_ok-push.ensures.items, c.begins.ensures, append_assoc)
    (c.loop-place.invariant ∙ ap (λ xs. c.loop-place.after.items ++ xs) (one_turn c.args.wanted c.loop-place.before c.args.reached.now c.args.text.now c.loop-place.place c.loop-place-test.true))
