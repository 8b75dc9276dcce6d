use Rattle.rel_ops.proofs.UnionLaws.{union_erases, union_shows, union_keeps_shown}
use Rattle.rel_ops.proofs.laws.law_of_union.Goals as goal

pub returns-clause-erases : goal.returns-clause-erases
returns-clause-erases c = union_erases

pub returns-clause-shows : goal.returns-clause-shows
returns-clause-shows c = union_shows

pub returns-clause-same : goal.returns-clause-same
returns-clause-same c = union_keeps_shown
