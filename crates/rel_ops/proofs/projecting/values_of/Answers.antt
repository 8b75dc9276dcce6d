use Rattle.std.proofs.lemmas.Result.{err_from_is_err_and}
use Rattle.rel_ops.specs.Project.{item_value}
use Rattle.relations.proofs.Collecting.{stops_at}
use Rattle.rel_ops.proofs.projecting.values_of.Goals as goal

pub returns-in_err-value : goal.returns-in_err-value
returns-in_err-value c =
    let p = err_from_is_err_and c.from_residual-in_err-value.result c.from_residual-in_err-value.ensures.1 in
    rw (p.1, p.2) (stops_at (item_value c.args.row.now c.args.picks.now c.args.cell) _ c.loop-item.values c.args.items.now c.loop-item.item-index c.item-item.result c.in_err-value.field-0.0
    c.loop-item.invariant c.loop-item-test.true c.item-item.is c.in_err-value.ensures)
