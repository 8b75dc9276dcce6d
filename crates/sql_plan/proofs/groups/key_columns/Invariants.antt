use Rattle.std.proofs.Common.{◌≡◌, ◌+◌, ◌++◌, drop}
use Rattle.std.specs.List.{flat_map}
use Rattle.relations.specs.Places.{placed_from}
use Rattle.sql_plan.specs.Groups.{columns_at, key_columns}
use Rattle.sql_plan.proofs.groups.key_columns.Given as goal

abbrev pub invariant-loop-place : goal.invariant-loop-place
invariant-loop-place l = key_columns l.columns l.keys ≡ l.all ++ flat_map (columns_at l.keys) (placed_from (l.place + 1) (drop l.place l.columns))
