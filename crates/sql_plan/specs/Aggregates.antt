-- Whether an expression has an aggregate.
use Rattle.std.specs.Prelude.{Bool, true, false, ◌||◌, Option, Some, None, List}
use Rattle.std.specs.List.{list_any}
use Rattle.expr_lang.specs.declared.expr.Expr.{Expr}
use Rattle.expr_lang.specs.declared.expr.Arm.{Arm, out-Arm}
use Rattle.expr_lang.specs.declared.expr.Expr.TheOpen.{Expr-F}
use Rattle.expr_lang.specs.declared.expr.Expr.TheFolds.{fold-Expr}
use Rattle.expr_meaning.specs.Meaning.{arm_of}

-- one of these at least
abbrev pub any_of : List Bool → Bool
any_of bs = list_any (λ b. b) bs

-- where it is there
abbrev pub if_there : Option Bool → Bool
if_there None = false
if_there (Some b) = b

-- a form has one where it is one, or a part of it has one
abbrev pub has_form : Expr-F Bool (Bool × Bool) → Bool
has_form (Expr-F.Literal v) = false
has_form (Expr-F.Column q name) = false
has_form (Expr-F.Unary op x) = x
has_form (Expr-F.Binary op x y) = x || y
has_form (Expr-F.IsNull x negate) = x
has_form (Expr-F.Like x y negate) = x || y
has_form (Expr-F.OneOf x list negate) = x || any_of list
has_form (Expr-F.Case arms otherwise) = list_any (λ a. a.0 || a.1) arms || if_there otherwise
has_form (Expr-F.Coalesce list) = any_of list
has_form (Expr-F.Cast x k) = x
has_form (Expr-F.Caveat x message call) = x
has_form Expr-F.CountAll = true
has_form (Expr-F.Count x) = true
has_form (Expr-F.Sum x) = true
has_form (Expr-F.Min x) = true
has_form (Expr-F.Max x) = true

-- whether an expression has an aggregate
unfoldable pub has_aggregate : Expr → Bool
has_aggregate = fold-Expr Bool (Bool × Bool) has_form (arm_of Bool)

-- whether an arm has one
abbrev pub arm_has : Arm → Bool
arm_has a = has_aggregate (out-Arm a).condition || has_aggregate (out-Arm a).answer
