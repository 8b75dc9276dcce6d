use Rattle.std.proofs.Common.{◌≡◌, ◌++◌, true, drop}
use Rattle.expr_print.specs.Calls.{left_of, arms_left}
use Rattle.expr_print.proofs.print.+print.Given as goal

abbrev pub invariant-push_entries-loop-item : goal.invariant-push_entries-loop-item
invariant-push_entries-loop-item l = l.out ++ left_of l.first (drop l.item-index l.list) ≡ l.initial.out ++ left_of true l.list

abbrev pub invariant-push_arms-loop-arm : goal.invariant-push_arms-loop-arm
invariant-push_arms-loop-arm l = l.out ++ arms_left (drop l.arm-index l.arms) ≡ l.initial.out ++ arms_left l.arms
