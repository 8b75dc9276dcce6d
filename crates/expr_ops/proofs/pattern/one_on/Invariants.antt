use Rattle.std.proofs.Common.{◌≡◌, ◌++◌, false, drop}
use Rattle.expr_ops.specs.LikeSteps.{one_on}
use Rattle.expr_ops.proofs.pattern.one_on.Given as goal

abbrev pub invariant-loop-place : goal.invariant-loop-place
invariant-loop-place l = one_on l.wanted false l.reached l.text ≡ l.after.items ++ one_on l.wanted l.before (drop l.place l.reached) (drop l.place l.text)
