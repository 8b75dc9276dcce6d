use Rattle.std.proofs.Common.{◌≡◌, drop}
use Rattle.relations.specs.Batches.{gathered}
use Rattle.relations.specs.Bound.{AreUnder}
use Rattle.relations.proofs.Loops.{resumed}
use Rattle.rel_ops.specs.Project.{item_row}
use Rattle.rel_ops.proofs.projecting.item_rows.Given as goal

abbrev pub invariant-loop-row : goal.invariant-loop-row
invariant-loop-row l =
    AreUnder l.columns l.bound ×
    (gathered (item_row l.columns l.items l.picks l.cell) l.rows
    ≡ resumed l.all (item_row l.columns l.items l.picks l.cell) (drop l.row-index l.rows))
