use Rattle.row_edits.proofs.SetLaws.{set_erases, set_shows, set_keeps, set_table}
use Rattle.row_edits.proofs.laws.law_of_set_value.Goals as goal

pub returns-clause-erases : goal.returns-clause-erases
returns-clause-erases c = set_erases c.args.row.now c.args.column.now c.args.value.now

pub returns-clause-shows : goal.returns-clause-shows
returns-clause-shows c = set_shows c.args.row.now c.args.column.now c.args.value.now

pub returns-clause-same : goal.returns-clause-same
returns-clause-same c = set_keeps c.args.row.now c.args.column.now c.args.value.now

pub returns-clause-keeps : goal.returns-clause-keeps
returns-clause-keeps c = set_table c.args.row.now c.args.column.now c.args.value.now
