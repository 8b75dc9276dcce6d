use Rattle.std.proofs.Common.{◌≡◌, ◌++◌, map}
use Rattle.std.specs.Vec.Iter.{into_iter_items}
use Rattle.value_types.specs.declared.row_id.RowId.{Second}
use Rattle.rel_ops.specs.Union.{sided}
use Rattle.rel_ops.proofs.uniting.right_rows.Given as goal

abbrev pub invariant-loop-row : goal.invariant-loop-row
invariant-loop-row l =
    (goal.iterator-loop-row).can_next l.row-iterator ×
    (goal.iterator-loop-row).is_finite l.row-iterator ×
    (map (sided Second) l.fn.rows ≡ l.all ++ map (sided Second) (into_iter_items l.row-iterator))
