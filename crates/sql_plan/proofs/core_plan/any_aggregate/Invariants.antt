use Rattle.std.proofs.Common.{◌≡◌, drop}
use Rattle.std.specs.List.{list_any}
use Rattle.sql_plan.specs.Aggregates.{has_aggregate}
use Rattle.sql_plan.proofs.core_plan.any_aggregate.Given as goal

abbrev pub invariant-loop-item : goal.invariant-loop-item
invariant-loop-item l = list_any (λ i. has_aggregate i.expr) l.items ≡ list_any (λ i. has_aggregate i.expr) (drop l.item-index l.items)
