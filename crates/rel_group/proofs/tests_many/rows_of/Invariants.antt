-- rows in the list are numbered from 1
use Rattle.std.proofs.Common.{◌≡◌, length}
use Rattle.dataset_types.specs.Tables.{row_ids, numbered}
use Rattle.rel_group.proofs.tests_many.rows_of.Given as goal

abbrev pub invariant-loop-n : goal.invariant-loop-n
invariant-loop-n l = record { many : length l.rows ≡ l.n; ids : row_ids l.rows ≡ numbered (length l.rows) }
