use Rattle.std.proofs.lemmas.Result.{err_from_is_err_and}
use Rattle.relations.proofs.Collecting.{stops_at}
use Rattle.sql_plan.specs.Groups.{key_place}
use Rattle.sql_plan.proofs.groups.keys_among.Goals as goal

pub returns-in_err-place : goal.returns-in_err-place
returns-in_err-place c =
    let p = err_from_is_err_and c.from_residual-in_err-place.result c.from_residual-in_err-place.ensures.1 in
    rw (p.1, p.2) (stops_at (key_place c.args.places.now) _ c.loop-key.all c.args.keys.now c.loop-key.key-index c.key-item.result c.in_err-place.field-0.0
    c.loop-key.invariant c.loop-key-test.true c.key-item.is c.in_err-place.ensures)
