use Rattle.std.proofs.lemmas.Result.{err_from_is_err_and}
use Rattle.relations.proofs.Collecting.{stops_at}
use Rattle.sql_plan.specs.Plan.{key_checked}
use Rattle.sql_plan.proofs.plan.keys_among.Goals as goal

pub returns-in_err-found : goal.returns-in_err-found
returns-in_err-found c =
    let p = err_from_is_err_and c.from_residual-in_err-found.result c.from_residual-in_err-found.ensures.1 in
    rw (p.1, p.2) (stops_at (key_checked c.args.places.now) _ c.loop-key.all c.args.keys.now c.loop-key.key-index c.key-item.result c.in_err-found.field-0.0
    c.loop-key.invariant c.loop-key-test.true c.key-item.is c.in_err-found.ensures)
