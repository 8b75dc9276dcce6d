use Rattle.std.proofs.Common.{◌≡◌, ◌+◌, drop}
use Rattle.row_edits.specs.ByText.{up_to}
use Rattle.row_edits.specs.Ids.{row_id}
use Rattle.row_edits.proofs.by_text.up_to.Given as goal

abbrev pub invariant-loop-i : goal.invariant-loop-i
invariant-loop-i l = up_to row_id l.text l.rows ≡ l.i + up_to row_id l.text (drop l.i l.rows)
