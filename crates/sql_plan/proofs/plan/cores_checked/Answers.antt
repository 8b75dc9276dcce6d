use Rattle.std.proofs.lemmas.Result.{err_from_is_err_and}
use Rattle.relations.proofs.Collecting.{stops_at}
use Rattle.sql_plan.specs.Cores.{core_checked}
use Rattle.sql_plan.proofs.plan.cores_checked.Goals as goal

pub returns-in_err-plan : goal.returns-in_err-plan
returns-in_err-plan c =
    let p = err_from_is_err_and c.from_residual-in_err-plan.result c.from_residual-in_err-plan.ensures.1 in
    rw (p.1, p.2) (stops_at (core_checked c.args.headings.now) _ c.loop-core.all c.args.cores.now c.loop-core.core-index c.core-item.result c.in_err-plan.field-0.0
    c.loop-core.invariant c.loop-core-test.true c.core-item.is c.in_err-plan.ensures)
