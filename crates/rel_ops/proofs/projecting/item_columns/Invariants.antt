use Rattle.std.proofs.Common.{◌≡◌, drop}
use Rattle.expr_meaning.specs.Calls.{type_setting}
use Rattle.rel_ops.specs.Project.{item_column, item_columns}
use Rattle.relations.proofs.Collecting.{rest_of}
use Rattle.rel_ops.proofs.projecting.item_columns.Given as goal

abbrev pub invariant-loop-item : goal.invariant-loop-item
invariant-loop-item l =
    item_columns (type_setting l.types) l.items ≡ rest_of l.all (item_column (type_setting l.types)) (drop l.item-index l.items)
