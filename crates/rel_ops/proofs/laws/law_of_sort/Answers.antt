use Rattle.rel_ops.proofs.SortLaws.{sort_erases, sort_shows, sort_keeps_shown}
use Rattle.rel_ops.proofs.Orders.{sort_orders}
use Rattle.rel_ops.proofs.laws.law_of_sort.Goals as goal

pub returns-clause-erases : goal.returns-clause-erases
returns-clause-erases c = sort_erases c.args.keys.now

pub returns-clause-shows : goal.returns-clause-shows
returns-clause-shows c = sort_shows c.args.keys.now

pub returns-clause-same : goal.returns-clause-same
returns-clause-same c = sort_keeps_shown c.args.keys.now

pub returns-clause-orders : goal.returns-clause-orders
returns-clause-orders c = sort_orders c.args.keys.now
