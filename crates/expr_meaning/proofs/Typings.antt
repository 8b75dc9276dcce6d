-- The type of each variant.
use Rattle.std.proofs.Common.{◌≡◌, ℕ, Bool, Option, Some, None, List, [], ◌∷◌, map, Ok, refl, sym, ap, ◌∙◌}
use Rattle.std.specs.Prelude.{option_map}
use Rattle.value_types.specs.declared.value.Value.{Value}
use Rattle.value_types.specs.declared.value.ColumnType.{ColumnType}
use Rattle.value_types.specs.declared.value.ColumnType.TheVariants as kind
use Rattle.expr_lang.specs.declared.ops.UnaryOp.{UnaryOp}
use Rattle.expr_lang.specs.declared.ops.BinaryOp.{BinaryOp}
use Rattle.expr_lang.specs.declared.expr.Expr.{Expr, roll-Expr, Literal, Column, Unary, Binary, IsNull, Like, OneOf, Case, Coalesce, Cast, Caveat, CountAll, Count, Sum, Min, Max}
use Rattle.expr_lang.specs.declared.expr.Arm.{Arm, out-Arm}
use Rattle.expr_lang.specs.declared.expr.Expr.TheOpen.{Expr-F}
use Rattle.expr_lang.specs.declared.expr.Expr.TheFolds.{map-Expr, fold-Arm, fold-roll-Expr, fold_out-Arm}
use Rattle.expr_lang.specs.declared.expr.Expr.TheVariants.{rolls-Literal, rolls-Column, rolls-Unary, rolls-Binary, rolls-IsNull, rolls-Like, rolls-OneOf, rolls-Case, rolls-Coalesce, rolls-Cast, rolls-Caveat, rolls-CountAll, rolls-Count, rolls-Sum, rolls-Min, rolls-Max}
use Rattle.expr_ops.specs.declared.aggregates.Aggregate.TheVariants as aggregate
use Rattle.cell_errors.specs.Answers.{Answer, and_then}
use Rattle.expr_meaning.specs.declared.expr_type.ExprType.{ExprType}
use Rattle.expr_meaning.specs.declared.expr_type.ExprType.TheVariants.{Null, Of}
use Rattle.expr_meaning.specs.Meaning.{arm_of}
use Rattle.expr_meaning.specs.Types.{TypeSetting, Typing, type_of_value, unary_type, cast_type, column_type, binary_typing, like_typing, list_typing, agreed, arms_typing, or_null_type, count_typing, each_at, arms_at, type_form, typing, type_at, over_type_at, arm_type_at}

module _ (s : TypeSetting) where
  abbrev T : Expr → Answer ExprType
  T = type_at s

  abbrev folded_arm : Arm → Typing × Typing
  folded_arm = fold-Arm Typing (Typing × Typing) type_form (arm_of Typing)

  N-roll : (x : Expr-F Expr Arm) → typing (roll-Expr x) ≡ type_form (map-Expr Expr Arm Typing (Typing × Typing) typing folded_arm x)
  unfolding typing
  N-roll x = fold-roll-Expr Typing (Typing × Typing) type_form (arm_of Typing) x

  T-roll : (x : Expr-F Expr Arm) → T (roll-Expr x) ≡ type_form (map-Expr Expr Arm Typing (Typing × Typing) typing folded_arm x) s
  unfolding type_at
  T-roll x = ap (λ (f : Typing). f s) (N-roll x)

  folded_arm-out : (a : Arm) → folded_arm a ≡ (typing (out-Arm a).condition, typing (out-Arm a).answer)
  unfolding typing
  folded_arm-out a = fold_out-Arm Typing (Typing × Typing) type_form (arm_of Typing) a

  each_is : (list : List Expr) → each_at s (map typing list) ≡ map T list
  unfolding type_at
  each_is [] = refl
  each_is (x ∷ xs) = ap (λ ts. typing x s ∷ ts) (each_is xs)

  arms_are : (arms : List Arm) → arms_at s (map folded_arm arms) ≡ map (arm_type_at s) arms
  unfolding type_at
  arms_are [] = refl
  arms_are (a ∷ arms) =
      ap (λ (p : Typing × Typing). (p.0 s, p.1 s) ∷ arms_at s (map folded_arm arms)) (folded_arm-out a)
      ∙ ap (λ ts. (typing (out-Arm a).condition s, typing (out-Arm a).answer s) ∷ ts) (arms_are arms)

  pub T-Literal : (v : Value) → T (Literal v) ≡ Ok (type_of_value v)
  T-Literal v = ap T (sym (rolls-Literal v)) ∙ T-roll (Expr-F.Literal v)

  pub T-Column : (q : Option (List ℕ)) (name : List ℕ) → T (Column q name) ≡ column_type s.columns q name
  T-Column q name = ap T (sym (rolls-Column q name)) ∙ T-roll (Expr-F.Column q name)

  pub T-Unary : (op : UnaryOp) (x : Expr) → T (Unary op x) ≡ and_then (T x) (unary_type op)
  unfolding type_at
  T-Unary op x = ap T (sym (rolls-Unary op x)) ∙ T-roll (Expr-F.Unary op x)

  pub T-Binary : (op : BinaryOp) (x y : Expr) → T (Binary op x y) ≡ binary_typing op (T x) (T y)
  unfolding type_at
  T-Binary op x y = ap T (sym (rolls-Binary op x y)) ∙ T-roll (Expr-F.Binary op x y)

  pub T-IsNull : (x : Expr) (negate : Bool) → T (IsNull x negate) ≡ and_then (T x) (λ t. Ok (Of kind.Bool))
  unfolding type_at
  T-IsNull x negate = ap T (sym (rolls-IsNull x negate)) ∙ T-roll (Expr-F.IsNull x negate)

  pub T-Like : (x y : Expr) (negate : Bool) → T (Like x y negate) ≡ like_typing (T x) (T y)
  unfolding type_at
  T-Like x y negate = ap T (sym (rolls-Like x y negate)) ∙ T-roll (Expr-F.Like x y negate)

  pub T-OneOf : (x : Expr) (list : List Expr) (negate : Bool) → T (OneOf x list negate) ≡ and_then (T x) (λ t. list_typing t (map T list))
  unfolding type_at
  T-OneOf x list negate = ap T (sym (rolls-OneOf x list negate)) ∙ T-roll (Expr-F.OneOf x list negate)
      ∙ ap (λ ts. and_then (typing x s) (λ t. list_typing t ts)) (each_is list)

  pub T-Case : (arms : List Arm) (otherwise : Option Expr) →
      T (Case arms otherwise) ≡ arms_typing (Ok Null) (map (arm_type_at s) arms) (or_null_type (option_map T otherwise))
  unfolding type_at
  T-Case arms None =
      ap T (sym (rolls-Case arms None)) ∙ T-roll (Expr-F.Case arms None) ∙ ap (λ ts. arms_typing (Ok Null) ts (Ok Null)) (arms_are arms)
  T-Case arms (Some x) =
      ap T (sym (rolls-Case arms (Some x))) ∙ T-roll (Expr-F.Case arms (Some x)) ∙ ap (λ ts. arms_typing (Ok Null) ts (typing x s)) (arms_are arms)

  pub T-Coalesce : (list : List Expr) → T (Coalesce list) ≡ agreed (Ok Null) (map T list)
  unfolding type_at
  T-Coalesce list = ap T (sym (rolls-Coalesce list)) ∙ T-roll (Expr-F.Coalesce list) ∙ ap (agreed (Ok Null)) (each_is list)

  pub T-Cast : (x : Expr) (k : ColumnType) → T (Cast x k) ≡ and_then (T x) (cast_type k)
  unfolding type_at
  T-Cast x k = ap T (sym (rolls-Cast x k)) ∙ T-roll (Expr-F.Cast x k)

  pub T-Caveat : (x : Expr) (message : List ℕ) (call : ℕ) → T (Caveat x message call) ≡ T x
  unfolding type_at
  T-Caveat x message call = ap T (sym (rolls-Caveat x message call)) ∙ T-roll (Expr-F.Caveat x message call)

  pub T-CountAll : T CountAll ≡ count_typing s.group
  T-CountAll = ap T (sym rolls-CountAll) ∙ T-roll Expr-F.CountAll

  pub T-Count : (x : Expr) → T (Count x) ≡ over_type_at aggregate.Count s x
  unfolding type_at over_type_at
  T-Count x = ap T (sym (rolls-Count x)) ∙ T-roll (Expr-F.Count x)

  pub T-Sum : (x : Expr) → T (Sum x) ≡ over_type_at aggregate.Sum s x
  unfolding type_at over_type_at
  T-Sum x = ap T (sym (rolls-Sum x)) ∙ T-roll (Expr-F.Sum x)

  pub T-Min : (x : Expr) → T (Min x) ≡ over_type_at aggregate.Min s x
  unfolding type_at over_type_at
  T-Min x = ap T (sym (rolls-Min x)) ∙ T-roll (Expr-F.Min x)

  pub T-Max : (x : Expr) → T (Max x) ≡ over_type_at aggregate.Max s x
  unfolding type_at over_type_at
  T-Max x = ap T (sym (rolls-Max x)) ∙ T-roll (Expr-F.Max x)

-- what the proofs of typing use
pub ruleset typings = (T-Literal, T-Column, T-Unary, T-Binary, T-IsNull, T-Like, T-OneOf, T-Case, T-Coalesce, T-Cast, T-Caveat, T-CountAll, T-Count, T-Sum, T-Min, T-Max)
