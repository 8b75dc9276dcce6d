use Rattle.std.proofs.Common.{◌≡◌, drop}
use Rattle.row_edits.specs.ByText.{only}
use Rattle.row_edits.specs.Insert.{any_unsure}
use Rattle.row_edits.specs.Ids.{row_id}
use Rattle.row_edits.proofs.by_text.any_unsure.Given as goal

abbrev pub invariant-loop-row : goal.invariant-loop-row
invariant-loop-row l = any_unsure (only row_id l.text l.rows) ≡ any_unsure (only row_id l.text (drop l.row-index l.rows))
