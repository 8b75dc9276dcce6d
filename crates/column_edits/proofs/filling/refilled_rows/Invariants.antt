use Rattle.std.proofs.Common.{◌≡◌, ◌++◌, drop}
use Rattle.column_edits.specs.Filling.{refilled_rows}
use Rattle.column_edits.proofs.filling.refilled_rows.Given as goal

abbrev pub invariant-loop-i : goal.invariant-loop-i
invariant-loop-i l = refilled_rows l.layout l.new l.rows ≡ l.all ++ refilled_rows l.layout (drop l.i l.new) (drop l.i l.rows)
