use Rattle.column_edits.specs.Plans.{moving}
use Rattle.column_edits.proofs.ChangeLaws.{change_erases, change_shows, change_keeps_shown}
use Rattle.column_edits.proofs.laws.law_of_moving.Goals as goal

pub returns-clause-erases : goal.returns-clause-erases
returns-clause-erases c = change_erases (moving c.args.name.now c.args.at)

pub returns-clause-shows : goal.returns-clause-shows
returns-clause-shows c = change_shows (moving c.args.name.now c.args.at)

pub returns-clause-same : goal.returns-clause-same
returns-clause-same c = change_keeps_shown (moving c.args.name.now c.args.at)
