use Rattle.std.proofs.Common.{◌≡◌, drop}
use Rattle.relations.specs.Batches.{gathered}
use Rattle.relations.specs.Bound.{AreUnder}
use Rattle.relations.proofs.Loops.{resumed}
use Rattle.rel_ops.specs.Filter.{where_row}
use Rattle.rel_ops.proofs.filtering.kept_copies.Given as goal

abbrev pub invariant-loop-row : goal.invariant-loop-row
invariant-loop-row l =
    AreUnder l.columns l.bound ×
    (gathered (where_row l.columns l.condition l.picks l.cell) l.rows
    ≡ resumed l.all (where_row l.columns l.condition l.picks l.cell) (drop l.row-index l.rows))
