use Rattle.std.proofs.Common.{◌≡◌, length}
use Rattle.dataset_types.specs.Tables.{row_ids, numbered}
use Rattle.column_edits.proofs.tests_limits.numbered_rows.Given as goal

abbrev pub invariant-loop-n : goal.invariant-loop-n
invariant-loop-n l = record { many : length l.rows ≡ l.n; ids : row_ids l.rows ≡ numbered (length l.rows) }
