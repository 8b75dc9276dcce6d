-- Whether each variant has an aggregate.
use Rattle.std.proofs.Common.{◌≡◌, ℕ, Bool, true, false, ◌||◌, Option, Some, None, List, [], ◌∷◌, map, refl, sym, ap, ◌∙◌}
use Rattle.std.specs.Prelude.{option_map}
use Rattle.std.specs.List.{list_any}
use Rattle.value_types.specs.declared.value.Value.{Value}
use Rattle.value_types.specs.declared.value.ColumnType.{ColumnType}
use Rattle.expr_lang.specs.declared.ops.UnaryOp.{UnaryOp}
use Rattle.expr_lang.specs.declared.ops.BinaryOp.{BinaryOp}
use Rattle.expr_lang.specs.declared.expr.Expr.{Expr, roll-Expr, Literal, Column, Unary, Binary, IsNull, Like, OneOf, Case, Coalesce, Cast, Caveat, CountAll, Count, Sum, Min, Max}
use Rattle.expr_lang.specs.declared.expr.Arm.{Arm, out-Arm}
use Rattle.expr_lang.specs.declared.expr.Expr.TheOpen.{Expr-F}
use Rattle.expr_lang.specs.declared.expr.Expr.TheFolds.{map-Expr, fold-Arm, fold-roll-Expr, fold_out-Arm}
use Rattle.expr_lang.specs.declared.expr.Expr.TheVariants.{rolls-Literal, rolls-Column, rolls-Unary, rolls-Binary, rolls-IsNull, rolls-Like, rolls-OneOf, rolls-Case, rolls-Coalesce, rolls-Cast, rolls-Caveat, rolls-CountAll, rolls-Count, rolls-Sum, rolls-Min, rolls-Max}
use Rattle.expr_meaning.specs.Meaning.{arm_of}
use Rattle.sql_plan.specs.Aggregates.{any_of, if_there, has_form, has_aggregate, arm_has}

abbrev H : Expr → Bool
H = has_aggregate

abbrev folded_arm : Arm → Bool × Bool
folded_arm = fold-Arm Bool (Bool × Bool) has_form (arm_of Bool)

H-roll : (x : Expr-F Expr Arm) → H (roll-Expr x) ≡ has_form (map-Expr Expr Arm Bool (Bool × Bool) H folded_arm x)
unfolding has_aggregate
H-roll x = fold-roll-Expr Bool (Bool × Bool) has_form (arm_of Bool) x

folded_arm-out : (a : Arm) → folded_arm a ≡ (H (out-Arm a).condition, H (out-Arm a).answer)
unfolding has_aggregate
folded_arm-out a = fold_out-Arm Bool (Bool × Bool) has_form (arm_of Bool) a

any_is : (list : List Expr) → any_of (map H list) ≡ list_any H list
any_is [] = refl
any_is (x ∷ xs) = ap (λ b. H x || b) (any_is xs)

arms_are : (arms : List Arm) → list_any (λ (a : Bool × Bool). a.0 || a.1) (map folded_arm arms) ≡ list_any arm_has arms
arms_are [] = refl
arms_are (a ∷ arms) =
    ap (λ (p : Bool × Bool). (p.0 || p.1) || list_any (λ (a : Bool × Bool). a.0 || a.1) (map folded_arm arms)) (folded_arm-out a)
    ∙ ap (λ b. arm_has a || b) (arms_are arms)

pub H-Literal : (v : Value) → H (Literal v) ≡ false
H-Literal v = ap H (sym (rolls-Literal v)) ∙ H-roll (Expr-F.Literal v)

pub H-Column : (q : Option (List ℕ)) (name : List ℕ) → H (Column q name) ≡ false
H-Column q name = ap H (sym (rolls-Column q name)) ∙ H-roll (Expr-F.Column q name)

pub H-Unary : (op : UnaryOp) (x : Expr) → H (Unary op x) ≡ H x
H-Unary op x = ap H (sym (rolls-Unary op x)) ∙ H-roll (Expr-F.Unary op x)

pub H-Binary : (op : BinaryOp) (x y : Expr) → H (Binary op x y) ≡ (H x || H y)
H-Binary op x y = ap H (sym (rolls-Binary op x y)) ∙ H-roll (Expr-F.Binary op x y)

pub H-IsNull : (x : Expr) (negate : Bool) → H (IsNull x negate) ≡ H x
H-IsNull x negate = ap H (sym (rolls-IsNull x negate)) ∙ H-roll (Expr-F.IsNull x negate)

pub H-Like : (x y : Expr) (negate : Bool) → H (Like x y negate) ≡ (H x || H y)
H-Like x y negate = ap H (sym (rolls-Like x y negate)) ∙ H-roll (Expr-F.Like x y negate)

pub H-OneOf : (x : Expr) (list : List Expr) (negate : Bool) → H (OneOf x list negate) ≡ (H x || list_any H list)
H-OneOf x list negate = ap H (sym (rolls-OneOf x list negate)) ∙ H-roll (Expr-F.OneOf x list negate) ∙ ap (λ b. H x || b) (any_is list)

pub H-Case : (arms : List Arm) (otherwise : Option Expr) → H (Case arms otherwise) ≡ (list_any arm_has arms || if_there (option_map H otherwise))
H-Case arms None =
    ap H (sym (rolls-Case arms None)) ∙ H-roll (Expr-F.Case arms None) ∙ ap (λ b. b || false) (arms_are arms)
H-Case arms (Some x) =
    ap H (sym (rolls-Case arms (Some x))) ∙ H-roll (Expr-F.Case arms (Some x)) ∙ ap (λ b. b || H x) (arms_are arms)

pub H-Coalesce : (list : List Expr) → H (Coalesce list) ≡ list_any H list
H-Coalesce list = ap H (sym (rolls-Coalesce list)) ∙ H-roll (Expr-F.Coalesce list) ∙ any_is list

pub H-Cast : (x : Expr) (k : ColumnType) → H (Cast x k) ≡ H x
H-Cast x k = ap H (sym (rolls-Cast x k)) ∙ H-roll (Expr-F.Cast x k)

pub H-Caveat : (x : Expr) (message : List ℕ) (call : ℕ) → H (Caveat x message call) ≡ H x
H-Caveat x message call = ap H (sym (rolls-Caveat x message call)) ∙ H-roll (Expr-F.Caveat x message call)

pub H-CountAll : H CountAll ≡ true
H-CountAll = ap H (sym rolls-CountAll) ∙ H-roll Expr-F.CountAll

pub H-Count : (x : Expr) → H (Count x) ≡ true
H-Count x = ap H (sym (rolls-Count x)) ∙ H-roll (Expr-F.Count x)

pub H-Sum : (x : Expr) → H (Sum x) ≡ true
H-Sum x = ap H (sym (rolls-Sum x)) ∙ H-roll (Expr-F.Sum x)

pub H-Min : (x : Expr) → H (Min x) ≡ true
H-Min x = ap H (sym (rolls-Min x)) ∙ H-roll (Expr-F.Min x)

pub H-Max : (x : Expr) → H (Max x) ≡ true
H-Max x = ap H (sym (rolls-Max x)) ∙ H-roll (Expr-F.Max x)

-- what the proofs of `has_aggregate` use
pub ruleset aggregating = (H-Literal, H-Column, H-Unary, H-Binary, H-IsNull, H-Like, H-OneOf, H-Case, H-Coalesce, H-Cast, H-Caveat, H-CountAll, H-Count, H-Sum, H-Min, H-Max)
