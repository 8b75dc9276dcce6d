use Rattle.std.proofs.Common.{◌≡◌, take}
use Rattle.dataset_types.specs.Tables.{column_names}
use Rattle.column_edits.proofs.tests.names_of.Given as goal

abbrev pub invariant-loop-column : goal.invariant-loop-column
invariant-loop-column l = l.names ≡ column_names (take l.column-index l.columns)
