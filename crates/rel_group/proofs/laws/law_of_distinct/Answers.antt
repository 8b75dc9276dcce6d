use Rattle.rel_group.proofs.ErasedGroup.{distinct_erases}
use Rattle.rel_group.proofs.ShownGroup.{distinct_shows}
use Rattle.rel_group.proofs.SameGroup.{distinct_keeps_shown}
use Rattle.rel_group.proofs.laws.law_of_distinct.Goals as goal

pub returns-clause-erases : goal.returns-clause-erases
returns-clause-erases c = distinct_erases

pub returns-clause-shows : goal.returns-clause-shows
returns-clause-shows c = distinct_shows

pub returns-clause-same : goal.returns-clause-same
returns-clause-same c = distinct_keeps_shown
