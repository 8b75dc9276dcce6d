-- Each function goes on with a part, or hands a list to one that goes through it.
use Rattle.std.proofs.Common.{◌≡◌, drop}
use Rattle.std.specs.List.{list_any}
use Rattle.sql_plan.specs.Aggregates.{has_aggregate, arm_has}
use Rattle.sql_plan.proofs.aggregates.+aggregates.Given as goal

abbrev pub invariant-any_has-loop-item : goal.invariant-any_has-loop-item
invariant-any_has-loop-item l = list_any has_aggregate l.list ≡ list_any has_aggregate (drop l.item-index l.list)

abbrev pub invariant-any_arm_has-loop-arm : goal.invariant-any_arm_has-loop-arm
invariant-any_arm_has-loop-arm l = list_any arm_has l.arms ≡ list_any arm_has (drop l.arm-index l.arms)
