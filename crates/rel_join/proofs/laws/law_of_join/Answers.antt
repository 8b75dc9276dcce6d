use Rattle.rel_join.proofs.ErasedJoin.{join_erases}
use Rattle.rel_join.proofs.ShownJoin.{join_shows}
use Rattle.rel_join.proofs.SameJoin.{join_keeps_shown}
use Rattle.rel_join.proofs.laws.law_of_join.Goals as goal

pub returns-clause-erases : goal.returns-clause-erases
returns-clause-erases c = join_erases c.args.kind c.args.on.now

pub returns-clause-shows : goal.returns-clause-shows
returns-clause-shows c = join_shows c.args.kind c.args.on.now

pub returns-clause-same : goal.returns-clause-same
returns-clause-same c = join_keeps_shown c.args.kind c.args.on.now
