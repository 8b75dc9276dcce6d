use Rattle.std.proofs.Common.{◌≡◌, ℕ, ◌+◌, ◌*◌, max, Ok, Option, Some, None, map, drop}
use Rattle.expr_lang.specs.declared.expr.Expr.{Expr}
use Rattle.expr_lang.proofs.expr.Expr.TheLaws.{the_size}
use Rattle.expr_meaning.specs.declared.expr_type.ExprType.TheVariants.{Null}
use Rattle.expr_meaning.specs.Calls.{case_type, type_setting}
use Rattle.expr_meaning.specs.Types.{type_at, list_typing, agreed}
use Rattle.expr_meaning.proofs.typing.+typing.Given as goal

-- how deep an ELSE is, where there is one
abbrev depth_of : Option Expr → ℕ
depth_of None = 0
depth_of (Some e) = the_size e

-- Each function goes on with a part, or hands the whole to `type_in`. A CASE hands on both its arms and its ELSE.
abbrev pub decreases-type_in : goal.decreases-type_in
decreases-type_in l = 2 * goal.size-type_in l

abbrev pub decreases-type_case : goal.decreases-type_case
decreases-type_case l = 2 * max (goal.size-type_case l) (depth_of l.otherwise.now) + 1

abbrev pub decreases-type_over : goal.decreases-type_over
decreases-type_over l = 2 * goal.size-type_over l + 1

abbrev pub decreases-type_list : goal.decreases-type_list
decreases-type_list l = 2 * goal.size-type_list l + 1

abbrev pub decreases-type_all : goal.decreases-type_all
decreases-type_all l = 2 * goal.size-type_all l + 1

abbrev pub invariant-type_list-loop-item : goal.invariant-type_list-loop-item
invariant-type_list-loop-item l =
    list_typing l.of (map (type_at (type_setting l.setting)) l.list) ≡ list_typing l.of (map (type_at (type_setting l.setting)) (drop l.item-index l.list))

abbrev pub invariant-type_all-loop-item : goal.invariant-type_all-loop-item
invariant-type_all-loop-item l =
    agreed (Ok Null) (map (type_at (type_setting l.setting)) l.list) ≡ agreed l.sofar (map (type_at (type_setting l.setting)) (drop l.item-index l.list))

abbrev pub invariant-type_case-loop-arm : goal.invariant-type_case-loop-arm
invariant-type_case-loop-arm l =
    case_type l.setting (Ok Null) l.arms l.otherwise ≡ case_type l.setting l.sofar (drop l.arm-index l.arms) l.otherwise
