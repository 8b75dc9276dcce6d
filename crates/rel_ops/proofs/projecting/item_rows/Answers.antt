use Rattle.std.proofs.lemmas.Result.{err_from_is_err_and}
use Rattle.rel_ops.proofs.ItemRows.{rows_stop}
use Rattle.rel_ops.proofs.projecting.item_rows.Goals as goal

pub returns-in_err-values : goal.returns-in_err-values
returns-in_err-values c =
    let p = err_from_is_err_and c.from_residual-in_err-values.result c.from_residual-in_err-values.ensures.1 in
    rw (p.1, p.2) (rows_stop c.args.columns.now c.args.items.now c.args.picks.now c.args.cell _ c.loop-row.all c.args.rows.now c.loop-row.row-index c.row-item.result
    c.in_err-values.field-0.0 c.loop-row.invariant.1 c.loop-row-test.true c.row-item.is c.in_err-values.ensures.value)
