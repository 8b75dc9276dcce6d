use Rattle.std.proofs.Common.{◌≡◌, ◌++◌, drop, map}
use Rattle.std.specs.Prelude.{zip}
use Rattle.csv_load.specs.Calls.{column_named}
use Rattle.csv_load.proofs.file.columns_named.Given as goal

abbrev pub invariant-loop-place : goal.invariant-loop-place
invariant-loop-place l =
    map column_named (zip l.names l.kinds) ≡ l.columns ++ map column_named (zip (drop l.place l.names) (drop l.place l.kinds))
