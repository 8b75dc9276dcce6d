use Rattle.std.proofs.Common.{◌≡◌, ◌++◌, drop}
use Rattle.relations.specs.Bound.{bindings}
use Rattle.relations.proofs.bound_row.bind_more.Given as goal

abbrev pub invariant-loop-i : goal.invariant-loop-i
invariant-loop-i l = l.initial.row ++ bindings l.columns l.values ≡ l.row ++ bindings (drop l.i l.columns) (drop l.i l.values)
