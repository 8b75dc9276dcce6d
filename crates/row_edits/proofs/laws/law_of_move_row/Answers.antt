use Rattle.row_edits.proofs.MoveLaws.{move_erases, move_shows, move_keeps, move_table}
use Rattle.row_edits.proofs.laws.law_of_move_row.Goals as goal

pub returns-clause-erases : goal.returns-clause-erases
returns-clause-erases c = move_erases c.args.row.now c.args.after.now

pub returns-clause-shows : goal.returns-clause-shows
returns-clause-shows c = move_shows c.args.row.now c.args.after.now

pub returns-clause-same : goal.returns-clause-same
returns-clause-same c = move_keeps c.args.row.now c.args.after.now

pub returns-clause-keeps : goal.returns-clause-keeps
returns-clause-keeps c = move_table c.args.row.now c.args.after.now
