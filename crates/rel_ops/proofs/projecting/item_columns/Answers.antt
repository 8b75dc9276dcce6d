use Rattle.std.proofs.lemmas.Result.{err_from_is_err_and}
use Rattle.expr_meaning.specs.Calls.{type_setting}
use Rattle.rel_ops.specs.Project.{item_column}
use Rattle.relations.proofs.Collecting.{stops_at}
use Rattle.rel_ops.proofs.projecting.item_columns.Goals as goal

pub returns-in_err-column : goal.returns-in_err-column
returns-in_err-column c =
    let p = err_from_is_err_and c.from_residual-in_err-column.result c.from_residual-in_err-column.ensures.1 in
    rw (p.1, p.2) (stops_at (item_column (type_setting c.args.types.now)) _ c.loop-item.all c.args.items.now c.loop-item.item-index c.item-item.result c.in_err-column.field-0.0
    c.loop-item.invariant c.loop-item-test.true c.item-item.is c.in_err-column.ensures)
