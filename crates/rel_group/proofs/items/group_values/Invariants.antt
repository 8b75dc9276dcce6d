use Rattle.std.proofs.Common.{◌≡◌, drop}
use Rattle.relations.proofs.Collecting.{rest_of}
use Rattle.rel_group.specs.Calls.{item_in, items_in}
use Rattle.rel_group.proofs.items.group_values.Given as goal

abbrev pub invariant-loop-item : goal.invariant-loop-item
invariant-loop-item l = items_in l.setting l.items ≡ rest_of l.values (item_in l.setting) (drop l.item-index l.items)
