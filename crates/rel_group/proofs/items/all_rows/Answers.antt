use Rattle.std.proofs.lemmas.Result.{err_from_is_err_and}
use Rattle.relations.proofs.Loops.{stops_at}
use Rattle.rel_group.specs.Calls.{row_in}
use Rattle.rel_group.proofs.items.all_rows.Goals as goal

pub returns-in_err-made : goal.returns-in_err-made
returns-in_err-made c =
    let p = err_from_is_err_and c.from_residual-in_err-made.result c.from_residual-in_err-made.ensures.1 in
    rw (p.1, p.2) (stops_at (row_in c.args.job.now c.args.items.now) _ c.loop-lot.all c.args.lots.now c.loop-lot.lot-index c.lot-item.result c.in_err-made.field-0.0
    c.loop-lot.invariant c.loop-lot-test.true c.lot-item.is c.in_err-made.ensures)
