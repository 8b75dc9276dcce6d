use Rattle.std.proofs.Common.{◌≡◌, take}
use Rattle.relations.specs.Bound.{revalued}
use Rattle.relations.proofs.bound_row.put_values.Given as goal

abbrev pub invariant-loop-i : goal.invariant-loop-i
invariant-loop-i l = l.row.items ≡ revalued l.initial.row.items (take l.i l.values)
