use Rattle.std.proofs.Common.{◌≡◌, ◌++◌}
use Rattle.std.specs.Vec.Iter.{into_iter_items}
use Rattle.row_edits.specs.ByText.{changed_at}
use Rattle.row_edits.specs.Set.{with_value}
use Rattle.row_edits.specs.Ids.{row_id}
use Rattle.row_edits.proofs.setting.with_value_in.Given as goal

abbrev pub invariant-loop-one : goal.invariant-loop-one
invariant-loop-one l =
    (goal.iterator-loop-one).can_next l.one-iterator ×
    (goal.iterator-loop-one).is_finite l.one-iterator ×
    (changed_at row_id l.row (with_value l.at l.value) l.fn.rows ≡ l.all ++ changed_at row_id l.row (with_value l.at l.value) (into_iter_items l.one-iterator))
