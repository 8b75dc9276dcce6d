use Rattle.std.proofs.lemmas.Result.{err_from_is_err_and}
use Rattle.column_edits.proofs.FormulaCalls.{formula_stops, formula_goes, values_long, filled_rules}
use Rattle.column_edits.proofs.computing.formula.Goals as goal

pub returns-in_err-values : goal.returns-in_err-values
returns-in_err-values c =
    let p = err_from_is_err_and c.from_residual.result c.from_residual.ensures.1 in
    let h = rw c.get-own.ensures at c.in_err-values.ensures in
    rw (p.1, p.2) (formula_stops c.args.column.now c.args.expr.now c.args.picks.now c.args.cell c.args.table.now c.in_err-values.field-0.0 h)

pub filled_shared-requires : goal.filled_shared-requires
filled_shared-requires c =
    let are = rw c.get-own.ensures at c.in_ok-values.ensures in
    let is = rw c.get-own.ensures at c.law_of_rules.ensures in
    let long = values_long c.args.column.now c.args.expr.now c.args.picks.now c.args.cell c.args.table.now c.in_ok-values.values are in
    let rules = filled_rules c.args.column.now c.args.expr.now c.args.picks.now c.args.cell c.args.table.now c.in_ok-values.values are is in
    rw c.as_slice.ensures (record { long = long; rules = rules })

pub returns : goal.returns
returns c =
    let are = rw c.get-own.ensures at c.in_ok-values.ensures in
    let made = rw c.as_slice.ensures at c.filled_shared.ensures in
    rw (formula_goes c.args.column.now c.args.expr.now c.args.picks.now c.args.cell c.args.table.now c.in_ok-values.values are) made
