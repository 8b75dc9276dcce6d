use Rattle.std.proofs.Common.{◌≡◌, replicate}
use Rattle.rel_join.specs.Join.{null_value}
use Rattle.rel_join.proofs.lone.nulls.Given as goal

abbrev pub invariant-loop-i : goal.invariant-loop-i
invariant-loop-i l = l.values ≡ replicate l.i null_value
