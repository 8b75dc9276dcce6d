use Rattle.std.proofs.Common.{◌≡◌, drop}
use Rattle.relations.specs.Batches.{gathered}
use Rattle.relations.specs.Bound.{AreUnder}
use Rattle.rel_ops.specs.Project.{no_error, item_row}
use Rattle.rel_ops.proofs.projecting.check_rows.Given as goal

abbrev pub invariant-loop-row : goal.invariant-loop-row
invariant-loop-row l =
    AreUnder l.columns l.bound ×
    (no_error (gathered (item_row l.columns l.items l.picks l.cell) l.rows)
    ≡ no_error (gathered (item_row l.columns l.items l.picks l.cell) (drop l.row-index l.rows)))
