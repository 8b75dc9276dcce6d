use Rattle.row_edits.proofs.SortLaws.{sort_erases, sort_shows, sort_keeps, sort_table}
use Rattle.row_edits.proofs.laws.law_of_sort.Goals as goal

pub returns-clause-erases : goal.returns-clause-erases
returns-clause-erases c = sort_erases c.args.by.now

pub returns-clause-shows : goal.returns-clause-shows
returns-clause-shows c = sort_shows c.args.by.now

pub returns-clause-same : goal.returns-clause-same
returns-clause-same c = sort_keeps c.args.by.now

pub returns-clause-keeps : goal.returns-clause-keeps
returns-clause-keeps c = sort_table c.args.by.now
