use Rattle.std.proofs.Common.{◌≡◌, drop}
use Rattle.rel_ops.specs.Union.{types_agree}
use Rattle.rel_ops.proofs.uniting.agree.Given as goal

abbrev pub invariant-loop-i : goal.invariant-loop-i
invariant-loop-i l = types_agree l.a l.b ≡ types_agree (drop l.i l.a) (drop l.i l.b)
