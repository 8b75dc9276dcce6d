use Rattle.std.proofs.Common.{◌≡◌}
use Rattle.std.specs.Vec.Iter.{into_iter_items}
use Rattle.relations.specs.Batches.{gathered}
use Rattle.relations.specs.Bound.{AreUnder}
use Rattle.relations.proofs.Loops.{resumed}
use Rattle.rel_ops.specs.Filter.{where_row}
use Rattle.rel_ops.proofs.filtering.kept_rows.Given as goal

abbrev pub invariant-loop-row : goal.invariant-loop-row
invariant-loop-row l =
    (goal.iterator-loop-row).can_next l.row-iterator ×
    (goal.iterator-loop-row).is_finite l.row-iterator ×
    AreUnder l.columns l.bound ×
    (gathered (where_row l.columns l.condition l.picks l.cell) l.fn.rows
    ≡ resumed l.all (where_row l.columns l.condition l.picks l.cell) (into_iter_items l.row-iterator))
