use Rattle.row_edits.proofs.InsertLaws.{insert_erases, insert_shows, insert_keeps, insert_table}
use Rattle.row_edits.proofs.laws.law_of_insert_row.Goals as goal

pub returns-clause-erases : goal.returns-clause-erases
returns-clause-erases c = insert_erases c.args.row.now c.args.after.now

pub returns-clause-shows : goal.returns-clause-shows
returns-clause-shows c = insert_shows c.args.row.now c.args.after.now

pub returns-clause-same : goal.returns-clause-same
returns-clause-same c = insert_keeps c.args.row.now c.args.after.now

pub returns-clause-keeps : goal.returns-clause-keeps
returns-clause-keeps c = insert_table c.args.row.now c.args.after.now
