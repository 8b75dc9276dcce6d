use Rattle.std.proofs.lemmas.Result.{err_from_is_err_and}
use Rattle.column_edits.specs.Filling.{value_by}
use Rattle.relations.proofs.Collecting.{stops_at}
use Rattle.column_edits.proofs.computing.formula_values.Goals as goal

pub returns-in_err-value : goal.returns-in_err-value
returns-in_err-value c =
    let p = err_from_is_err_and c.from_residual-in_err-value.result c.from_residual-in_err-value.ensures.1 in
    rw (p.1, p.2) (stops_at (value_by c.args.how.now) _ c.loop-row.all c.args.rows.now c.loop-row.row-index c.row-item.result c.in_err-value.field-0.0
    c.loop-row.invariant.1 c.loop-row-test.true c.row-item.is c.in_err-value.ensures.value)
