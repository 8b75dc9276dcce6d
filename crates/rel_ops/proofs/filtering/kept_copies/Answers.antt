use Rattle.std.proofs.lemmas.Result.{err_from_is_err_and}
use Rattle.rel_ops.proofs.WhereRows.{kept_stops_at}
use Rattle.rel_ops.proofs.filtering.kept_copies.Goals as goal

pub returns-in_err-test : goal.returns-in_err-test
returns-in_err-test c =
    let p = err_from_is_err_and c.from_residual-in_err-test.result c.from_residual-in_err-test.ensures.1 in
    rw (p.1, p.2) (kept_stops_at c.args.columns.now c.args.condition.now c.args.picks.now c.args.cell _ c.loop-row.all c.args.rows.now c.loop-row.row-index c.row-item.result c.in_err-test.field-0.0
    c.loop-row.invariant.1 c.loop-row-test.true c.row-item.is c.in_err-test.ensures.value)
