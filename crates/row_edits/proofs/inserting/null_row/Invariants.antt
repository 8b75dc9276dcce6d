use Rattle.std.proofs.Common.{◌≡◌, ◌++◌, drop}
use Rattle.row_edits.specs.Insert.{nulls}
use Rattle.row_edits.proofs.inserting.null_row.Given as goal

abbrev pub invariant-loop-column : goal.invariant-loop-column
invariant-loop-column l = nulls l.columns ≡ l.values ++ nulls (drop l._column-index l.columns)
