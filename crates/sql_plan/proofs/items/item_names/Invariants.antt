use Rattle.std.proofs.Common.{◌≡◌, take}
use Rattle.rel_ops.specs.Project.{item_names}
use Rattle.sql_plan.proofs.items.item_names.Given as goal

abbrev pub invariant-loop-item : goal.invariant-loop-item
invariant-loop-item l = l.all ≡ item_names (take l.item-index l.items)
