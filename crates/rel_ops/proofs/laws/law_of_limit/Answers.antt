use Rattle.rel_ops.proofs.LimitLaws.{limit_erases, limit_shows, limit_keeps_shown}
use Rattle.rel_ops.proofs.laws.law_of_limit.Goals as goal

pub returns-clause-erases : goal.returns-clause-erases
returns-clause-erases c = limit_erases c.args.count

pub returns-clause-shows : goal.returns-clause-shows
returns-clause-shows c = limit_shows c.args.count

pub returns-clause-same : goal.returns-clause-same
returns-clause-same c = limit_keeps_shown c.args.count
