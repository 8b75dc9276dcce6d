use Rattle.std.proofs.Common.{◌≡◌, map, take}
use Rattle.sql_plan.specs.Items.{column_item}
use Rattle.sql_plan.proofs.items.column_items.Given as goal

abbrev pub invariant-loop-column : goal.invariant-loop-column
invariant-loop-column l = l.all ≡ map column_item (take l.column-index l.columns)
