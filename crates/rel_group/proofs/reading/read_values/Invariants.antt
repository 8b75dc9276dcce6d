use Rattle.std.proofs.Common.{◌≡◌, drop}
use Rattle.relations.proofs.Collecting.{rest_of}
use Rattle.rel_group.specs.Calls.{bound_in, item_over, values_in}
use Rattle.rel_group.proofs.reading.read_values.Given as goal

abbrev pub invariant-loop-item : goal.invariant-loop-item
invariant-loop-item l = values_in l.job l.items (bound_in l.job l.lot) ≡ rest_of l.values (item_over l.job l.lot) (drop l.item-index l.items)
