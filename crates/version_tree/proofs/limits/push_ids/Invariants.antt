use Rattle.std.proofs.Common.{◌≡◌, ◌++◌, drop}
use Rattle.version_tree.specs.Limits.{ids_of}
use Rattle.version_tree.proofs.limits.push_ids.Given as goal

abbrev pub invariant-loop-cell : goal.invariant-loop-cell
invariant-loop-cell l = l.ids ++ ids_of (drop l.cell-index l.cells) ≡ l.fn.ids ++ ids_of l.cells
