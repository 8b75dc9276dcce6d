use Rattle.std.proofs.Common.{◌≡◌, ◌++◌, drop}
use Rattle.version_tree.proofs.version.share.Given as goal

abbrev pub invariant-loop-cell : goal.invariant-loop-cell
invariant-loop-cell l = l.list ++ drop l.cell-index l.cells ≡ l.fn.list ++ l.cells
