use Rattle.row_edits.proofs.DeleteLaws.{delete_erases, delete_shows, delete_keeps, delete_table}
use Rattle.row_edits.proofs.laws.law_of_delete_row.Goals as goal

pub returns-clause-erases : goal.returns-clause-erases
returns-clause-erases c = delete_erases c.args.row.now

pub returns-clause-shows : goal.returns-clause-shows
returns-clause-shows c = delete_shows c.args.row.now

pub returns-clause-same : goal.returns-clause-same
returns-clause-same c = delete_keeps c.args.row.now

pub returns-clause-keeps : goal.returns-clause-keeps
returns-clause-keeps c = delete_table c.args.row.now
