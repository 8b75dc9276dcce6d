use Rattle.std.proofs.Common.{◌≡◌, drop}
use Rattle.row_edits.specs.Columns.{find_from, find_column}
use Rattle.row_edits.proofs.columns.find_column.Given as goal

abbrev pub invariant-loop-i : goal.invariant-loop-i
invariant-loop-i l = find_column l.columns l.name ≡ find_from l.i l.name (drop l.i l.columns)
