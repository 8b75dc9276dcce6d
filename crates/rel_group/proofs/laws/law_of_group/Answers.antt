use Rattle.std.specs.Option.{option_copied}
use Rattle.rel_group.proofs.ErasedGroup.{group_erases_all}
use Rattle.rel_group.proofs.ShownGroup.{group_shows_all}
use Rattle.rel_group.proofs.SameGroup.{group_keeps_shown}
use Rattle.rel_group.proofs.laws.law_of_group.Goals as goal

pub returns-clause-erases : goal.returns-clause-erases
returns-clause-erases c = group_erases_all c.args.keys.now (option_copied c.args.having) c.args.items.now

pub returns-clause-shows : goal.returns-clause-shows
returns-clause-shows c = group_shows_all c.args.keys.now (option_copied c.args.having) c.args.items.now

pub returns-clause-same : goal.returns-clause-same
returns-clause-same c = group_keeps_shown c.args.keys.now (option_copied c.args.having) c.args.items.now
