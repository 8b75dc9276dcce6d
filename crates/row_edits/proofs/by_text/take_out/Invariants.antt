use Rattle.std.proofs.Common.{◌≡◌, ◌++◌}
use Rattle.std.specs.Vec.Iter.{into_iter_items}
use Rattle.row_edits.specs.ByText.{only, without}
use Rattle.row_edits.specs.Ids.{row_id}
use Rattle.row_edits.proofs.by_text.take_out.Given as goal

abbrev pub invariant-loop-row : goal.invariant-loop-row
invariant-loop-row l =
    (goal.iterator-loop-row).can_next l.row-iterator ×
    (goal.iterator-loop-row).is_finite l.row-iterator ×
    (only row_id l.text l.fn.rows ≡ l.taken ++ only row_id l.text (into_iter_items l.row-iterator)) ×
    (without row_id l.text l.fn.rows ≡ l.others ++ without row_id l.text (into_iter_items l.row-iterator))
