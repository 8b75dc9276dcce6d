use Rattle.std.proofs.Common.{◌≡◌, map, take}
use Rattle.column_edits.specs.Changes.{laid_row}
use Rattle.column_edits.proofs.layout.laid_rows.Given as goal

abbrev pub invariant-loop-row : goal.invariant-loop-row
invariant-loop-row l = l.all ≡ map (laid_row l.layout l.blank) (take l.row-index l.rows)
