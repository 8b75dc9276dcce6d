use Rattle.std.proofs.Common.{◌≡◌, length}
use Rattle.dataset_types.specs.Tables.{row_ids, numbered}
use Rattle.report_text.proofs.tests.rows_of.Given as goal

abbrev pub invariant-loop-sure : goal.invariant-loop-sure
invariant-loop-sure l = record { many : length l.rows ≡ l.number; ids : row_ids l.rows ≡ numbered (length l.rows) }
