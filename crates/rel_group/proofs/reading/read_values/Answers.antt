use Rattle.std.proofs.lemmas.Result.{err_from_is_err_and}
use Rattle.relations.proofs.Collecting.{stops_at}
use Rattle.rel_group.specs.Calls.{item_over}
use Rattle.rel_group.proofs.reading.read_values.Goals as goal

pub returns-in_err-read_value : goal.returns-in_err-read_value
returns-in_err-read_value c =
    let p = err_from_is_err_and c.from_residual-in_err-read_value.result c.from_residual-in_err-read_value.ensures.1 in
    rw (p.1, p.2) (stops_at (item_over c.args.job.now c.args.lot.now) _ c.loop-item.values c.args.items.now c.loop-item.item-index c.item-item.result c.in_err-read_value.field-0.0
    c.loop-item.invariant c.loop-item-test.true c.item-item.is c.in_err-read_value.ensures)
