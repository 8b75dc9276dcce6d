use Rattle.std.proofs.Common.{◌≡◌, ◌++◌, false, drop}
use Rattle.expr_ops.specs.LikeSteps.{and_after}
use Rattle.expr_ops.proofs.pattern.and_after.Given as goal

abbrev pub invariant-loop-here : goal.invariant-loop-here
invariant-loop-here l = and_after false l.reached ≡ l.after.items ++ and_after l.sofar (drop l.here-index l.reached)
