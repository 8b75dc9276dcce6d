use Rattle.std.proofs.Common.{◌≡◌, ℕ, ◌+◌, ◌*◌, max, Option, Some, None, take}
use Rattle.expr_lang.specs.declared.expr.Expr.{Expr}
use Rattle.expr_lang.proofs.expr.Expr.TheLaws.{the_size}
use Rattle.expr_lang.proofs.copy.+copy.Given as goal

-- how deep an ELSE is, where there is one
abbrev depth_of : Option Expr → ℕ
depth_of None = 0
depth_of (Some e) = the_size e

-- Each function goes on with a part, or hands what it has to one with a smaller number. Where it has several, the
-- deepest counts.
abbrev pub decreases-copy_expr : goal.decreases-copy_expr
decreases-copy_expr l = 3 * goal.size-copy_expr l

abbrev pub decreases-copy_boxed : goal.decreases-copy_boxed
decreases-copy_boxed l = 3 * goal.size-copy_boxed l + 1

abbrev pub decreases-copy_list : goal.decreases-copy_list
decreases-copy_list l = 3 * goal.size-copy_list l + 1

abbrev pub decreases-copy_arms : goal.decreases-copy_arms
decreases-copy_arms l = 3 * goal.size-copy_arms l + 1

abbrev pub decreases-copy_like : goal.decreases-copy_like
decreases-copy_like l = 3 * max (the_size l.of.now) (the_size l.pattern.now) + 2

abbrev pub decreases-copy_one_of : goal.decreases-copy_one_of
decreases-copy_one_of l = 3 * max (goal.size-copy_one_of l) (the_size l.of.now) + 2

abbrev pub decreases-copy_case : goal.decreases-copy_case
decreases-copy_case l = 3 * max (goal.size-copy_case l) (depth_of l.otherwise.now) + 2

abbrev pub decreases-copy_caveat : goal.decreases-copy_caveat
decreases-copy_caveat l = 3 * goal.size-copy_caveat l + 2

abbrev pub invariant-copy_list-loop-item : goal.invariant-copy_list-loop-item
invariant-copy_list-loop-item l = l.all ≡ take l.item-index l.list

abbrev pub invariant-copy_arms-loop-arm : goal.invariant-copy_arms-loop-arm
invariant-copy_arms-loop-arm l = l.all ≡ take l.arm-index l.arms
