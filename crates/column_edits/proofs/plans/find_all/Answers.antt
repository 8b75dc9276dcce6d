use Rattle.std.proofs.Common.{◌∙◌}
use Rattle.std.proofs.lemmas.Result.{err_from_is_err_and}
use Rattle.column_edits.specs.Plans.{find}
use Rattle.relations.proofs.Collecting.{went_on_at, stops_at}
use Rattle.column_edits.proofs.plans.find_all.Goals as goal

pub returns-in_err-column : goal.returns-in_err-column
returns-in_err-column c =
    let p = err_from_is_err_and c.from_residual-in_err-column.result c.from_residual-in_err-column.ensures.1 in
    rw (p.1, p.2) (stops_at (λ name. find name c.args.layout.now) _ c.loop-name.all c.args.names.now c.loop-name.name-index c.name-item.result c.in_err-column.field-0.0
    c.loop-name.invariant c.loop-name-test.true c.name-item.is c.in_err-column.ensures)

pub loop-name-preserved : goal.loop-name-preserved
loop-name-preserved c =
    rw c.in_ok-push.ensures.ok (c.loop-name.invariant ∙ went_on_at (λ name. find name c.args.layout.now) c.loop-name.all c.in_ok-column.column c.args.names.now
    c.loop-name.name-index c.name-item.result c.loop-name-test.true c.name-item.is c.in_ok-column.ensures)
