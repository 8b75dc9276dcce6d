use Rattle.std.proofs.Common.{◌≡◌, ◌+◌, ◌++◌, length}
use Rattle.std.specs.Prelude.{◌||◌}
use Rattle.csv_load.specs.Reading.{IsReading, left_of}
use Rattle.csv_load.specs.Rows.{rows_of, some_surplus}
use Rattle.csv_load.specs.Calls.{repairs_of}
use Rattle.csv_load.proofs.RowLemmas.{rows_from}
use Rattle.csv_load.proofs.row.rows_of.Given as goal

abbrev pub invariant-loop-fields : goal.invariant-loop-fields
invariant-loop-fields g l =
    let all = left_of g.R.Read.remaining l.initial.reader in
    let rest = left_of g.R.Read.remaining l.reader in
    record {
      reading : IsReading g.R.Read.remaining l.reader;
      rows : rows_of (repairs_of l.repairs) l.columns all ≡ l.rows ++ rows_from (repairs_of l.repairs) l.columns (l.number + 1) rest;
      surplus : some_surplus (length l.columns) all ≡ (l.is_open || some_surplus (length l.columns) rest);
      counted : length all ≡ l.number + length rest;
    }

abbrev pub decreases-loop-fields : goal.decreases-loop-fields
decreases-loop-fields g l = length (left_of g.R.Read.remaining l.reader)
