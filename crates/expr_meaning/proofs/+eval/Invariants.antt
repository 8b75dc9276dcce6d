use Rattle.std.proofs.Common.{◌≡◌, ℕ, ◌+◌, ◌*◌, max, Option, Some, None, List, [], drop}
use Rattle.value_types.specs.declared.value.Value.{Value}
use Rattle.expr_lang.specs.declared.expr.Expr.{Expr}
use Rattle.expr_lang.proofs.expr.Expr.TheLaws.{the_size}
use Rattle.cell_errors.specs.Answers.{Answer}
use Rattle.cell_errors.specs.Seen.{after}
use Rattle.expr_meaning.specs.Sees.{seen}
use Rattle.expr_meaning.specs.Calls.{case_gives, each_gives, each_row_gives}
use Rattle.expr_meaning.specs.Steps.{any_equal_marked, equals_one, first_value_marked, all_marked}
use Rattle.expr_meaning.proofs.+eval.Given as goal

-- how deep an ELSE is, where there is one
abbrev depth_of : Option Expr → ℕ
depth_of None = 0
depth_of (Some e) = the_size e

-- Each function goes on with a part, or hands what it has to one with a smaller number. Where it has several, the
-- deepest counts.
abbrev pub decreases-evaluate::eval_in : goal.decreases-evaluate::eval_in
decreases-evaluate::eval_in l = 8 * goal.size-evaluate::eval_in l

abbrev pub decreases-evaluate::unary_of : goal.decreases-evaluate::unary_of
decreases-evaluate::unary_of l = 8 * goal.size-evaluate::unary_of l + 1

abbrev pub decreases-operators::put_other : goal.decreases-operators::put_other
decreases-operators::put_other l = 8 * goal.size-operators::put_other l + 1

abbrev pub decreases-operators::put : goal.decreases-operators::put
decreases-operators::put l = 8 * goal.size-operators::put l + 2

abbrev pub decreases-operators::beside_nested : goal.decreases-operators::beside_nested
decreases-operators::beside_nested l = 8 * goal.size-operators::beside_nested l + 3

abbrev pub decreases-operators::apply_rest : goal.decreases-operators::apply_rest
decreases-operators::apply_rest l = 8 * goal.size-operators::apply_rest l + 4

abbrev pub decreases-operators::apply : goal.decreases-operators::apply
decreases-operators::apply l = 8 * max (the_size l.left.now) (the_size l.right.now) + 5

abbrev pub decreases-operators::applied : goal.decreases-operators::applied
decreases-operators::applied l = 8 * max (the_size l.left.now) (the_size l.right.now) + 6

abbrev pub decreases-evaluate::null_test_of : goal.decreases-evaluate::null_test_of
decreases-evaluate::null_test_of l = 8 * goal.size-evaluate::null_test_of l + 1

abbrev pub decreases-evaluate::is_like : goal.decreases-evaluate::is_like
decreases-evaluate::is_like l = 8 * max (the_size l.of.now) (the_size l.pattern.now) + 1

abbrev pub decreases-evaluate::cast_of : goal.decreases-evaluate::cast_of
decreases-evaluate::cast_of l = 8 * goal.size-evaluate::cast_of l + 1

abbrev pub decreases-evaluate::with_caveat : goal.decreases-evaluate::with_caveat
decreases-evaluate::with_caveat l = 8 * goal.size-evaluate::with_caveat l + 1

abbrev pub decreases-evaluate::one_of : goal.decreases-evaluate::one_of
decreases-evaluate::one_of l = 8 * max (goal.size-evaluate::one_of l) (the_size l.of.now) + 3

abbrev pub decreases-evaluate::any_equal : goal.decreases-evaluate::any_equal
decreases-evaluate::any_equal l = 8 * goal.size-evaluate::any_equal l + 2

abbrev pub decreases-evaluate::or_equal : goal.decreases-evaluate::or_equal
decreases-evaluate::or_equal l = 8 * goal.size-evaluate::or_equal l + 1

abbrev pub decreases-evaluate::first_arm : goal.decreases-evaluate::first_arm
decreases-evaluate::first_arm l = 8 * max (goal.size-evaluate::first_arm l) (depth_of l.otherwise.now) + 1

abbrev pub decreases-evaluate::first_value : goal.decreases-evaluate::first_value
decreases-evaluate::first_value l = 8 * goal.size-evaluate::first_value l + 1

abbrev pub decreases-evaluate::over_group : goal.decreases-evaluate::over_group
decreases-evaluate::over_group l = 8 * goal.size-evaluate::over_group l + 2

abbrev pub decreases-evaluate::operands_over : goal.decreases-evaluate::operands_over
decreases-evaluate::operands_over l = 8 * goal.size-evaluate::operands_over l + 1

abbrev pub invariant-evaluate::first_value-loop-item : goal.invariant-evaluate::first_value-loop-item
invariant-evaluate::first_value-loop-item l =
    first_value_marked (each_gives l.setting l.list)
    ≡ after l.marked (first_value_marked (each_gives l.setting (drop l.item-index l.list)))

abbrev pub invariant-evaluate::any_equal-loop-item : goal.invariant-evaluate::any_equal-loop-item
invariant-evaluate::any_equal-loop-item l =
    equals_one l.value (each_gives l.setting l.list)
    ≡ any_equal_marked (seen l.found) l.value (each_gives l.setting (drop l.item-index l.list))

abbrev pub invariant-evaluate::first_arm-loop-arm : goal.invariant-evaluate::first_arm-loop-arm
invariant-evaluate::first_arm-loop-arm l =
    case_gives l.setting l.arms l.otherwise
    ≡ after l.marked (case_gives l.setting (drop l.arm-index l.arms) l.otherwise)

abbrev pub invariant-evaluate::operands_over-loop-row : goal.invariant-evaluate::operands_over-loop-row
invariant-evaluate::operands_over-loop-row l = (k : List Value → Answer Value) →
    all_marked (each_row_gives l.setting l.rows l.of) [] k
    ≡ after l.marked (all_marked (each_row_gives l.setting (drop l.row-index l.rows) l.of) l.values k)
