use Rattle.column_edits.proofs.FormulaLaws.{formula_erases, formula_shows, formula_keeps_shown}
use Rattle.column_edits.proofs.laws.law_of_formula.Goals as goal

pub returns-clause-erases : goal.returns-clause-erases
returns-clause-erases c = formula_erases c.args.column.now c.args.expr.now c.args.picks.now c.args.cell

pub returns-clause-shows : goal.returns-clause-shows
returns-clause-shows c = formula_shows c.args.column.now c.args.expr.now c.args.picks.now c.args.cell

pub returns-clause-same : goal.returns-clause-same
returns-clause-same c = formula_keeps_shown c.args.column.now c.args.expr.now c.args.picks.now c.args.others.now c.args.cell
