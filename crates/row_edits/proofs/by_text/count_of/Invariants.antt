use Rattle.std.proofs.Common.{◌≡◌, ◌≤◌, ◌+◌, drop, length}
use Rattle.row_edits.specs.ByText.{only}
use Rattle.row_edits.specs.Ids.{row_id}
use Rattle.row_edits.proofs.by_text.count_of.Given as goal

abbrev pub invariant-loop-row : goal.invariant-loop-row
invariant-loop-row l =
    (l.count ≤ l.row-index) × (length (only row_id l.text l.rows) ≡ l.count + length (only row_id l.text (drop l.row-index l.rows)))
