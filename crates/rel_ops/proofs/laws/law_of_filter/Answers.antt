use Rattle.rel_ops.proofs.FilterLaws.{filter_erases, filter_shows, filter_keeps_shown}
use Rattle.rel_ops.proofs.laws.law_of_filter.Goals as goal

pub returns-clause-erases : goal.returns-clause-erases
returns-clause-erases c = filter_erases c.args.condition.now

pub returns-clause-shows : goal.returns-clause-shows
returns-clause-shows c = filter_shows c.args.condition.now

pub returns-clause-same : goal.returns-clause-same
returns-clause-same c = filter_keeps_shown c.args.condition.now
