use Rattle.std.proofs.Common.{◌≡◌, drop}
use Rattle.rel_ops.specs.Project.{item_value, values_over}
use Rattle.relations.proofs.Collecting.{rest_of}
use Rattle.rel_ops.proofs.projecting.values_of.Given as goal

abbrev pub invariant-loop-item : goal.invariant-loop-item
invariant-loop-item l =
    values_over l.row l.items l.picks l.cell
    ≡ rest_of l.values (item_value l.row l.picks l.cell) (drop l.item-index l.items)
