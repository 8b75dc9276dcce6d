-- The marked meaning of each variant.
use Rattle.std.proofs.Common.{◌≡◌, ℕ, Bool, Option, Some, None, List, [], ◌∷◌, map, Ok, Err, refl, subst, sym, ap, ◌∙◌}
use Rattle.value_types.specs.declared.value.Value.{Value}
use Rattle.value_types.specs.declared.value.Value.TheVariants.{Null}
use Rattle.value_types.specs.declared.value.ColumnType.{ColumnType}
use Rattle.expr_lang.specs.declared.ops.UnaryOp.{UnaryOp}
use Rattle.expr_lang.specs.declared.ops.BinaryOp.{BinaryOp}
use Rattle.expr_lang.specs.declared.expr.Expr.{Expr, roll-Expr, Literal, Column, Unary, Binary, IsNull, Like, OneOf, Case, Coalesce, Cast, Caveat, CountAll, Count, Sum, Min, Max}
use Rattle.expr_lang.specs.declared.expr.Arm.{Arm, out-Arm}
use Rattle.expr_lang.specs.declared.expr.Expr.TheOpen.{Expr-F}
use Rattle.expr_lang.specs.declared.expr.Expr.TheFolds.{map-Expr, fold-Arm, fold-roll-Expr, fold_out-Arm}
use Rattle.expr_lang.specs.declared.expr.Expr.TheVariants.{rolls-Literal, rolls-Column, rolls-Unary, rolls-Binary, rolls-IsNull, rolls-Like, rolls-OneOf, rolls-Case, rolls-Coalesce, rolls-Cast, rolls-Caveat, rolls-CountAll, rolls-Count, rolls-Sum, rolls-Min, rolls-Max}
use Rattle.expr_ops.specs.declared.aggregates.Aggregate.TheVariants as aggregate
use Rattle.expr_ops.specs.Truths.{null_test}
use Rattle.expr_ops.specs.Casts.{cast}
use Rattle.expr_ops.specs.Ops.{unary_of}
use Rattle.dataset_types.specs.declared.picks.Pick.{Pick}
use Rattle.cell_errors.specs.Answers.{Answer}
use Rattle.cell_errors.specs.Seen.{Seen, after, go_on, seen_then, unmarked}
use Rattle.expr_meaning.specs.Settings.{MarkedSetting}
use Rattle.expr_meaning.specs.Forms.{applied, one_of, like_of, first_arm, first_value}
use Rattle.expr_meaning.specs.Meaning.{Reading, read_then, find_marked, caveat_marked, count_marked, marked_form, marked_meaning, marked_at, over_at, arm_of}
use Rattle.expr_meaning.specs.Steps.{arm_at, otherwise_at}
use Rattle.expr_meaning.proofs.Respects.{EachR, EachArm, applied_R, one_of_R, like_of_R, first_arm_R, first_value_R}
use Rattle.expr_meaning.proofs.Lists.{sees_wrong}

module _ (s : MarkedSetting) (picks : List Pick) (cell : ℕ) where
  abbrev N : Expr → Reading
  N = marked_meaning picks cell

  abbrev M : Expr → Seen Value
  M = marked_at s picks cell

  abbrev folded_arm : Arm → Reading × Reading
  folded_arm = fold-Arm Reading (Reading × Reading) (marked_form picks cell) (arm_of Reading)

  N-roll : (x : Expr-F Expr Arm) → N (roll-Expr x) ≡ marked_form picks cell (map-Expr Expr Arm Reading (Reading × Reading) N folded_arm x)
  unfolding marked_meaning
  N-roll x = fold-roll-Expr Reading (Reading × Reading) (marked_form picks cell) (arm_of Reading) x

  M-roll : (x : Expr-F Expr Arm) → M (roll-Expr x) ≡ marked_form picks cell (map-Expr Expr Arm Reading (Reading × Reading) N folded_arm x) s
  unfolding marked_at
  M-roll x = ap (λ (f : Reading). f s) (N-roll x)

  folded_arm-out : (a : Arm) → folded_arm a ≡ (N (out-Arm a).condition, N (out-Arm a).answer)
  unfolding marked_meaning
  folded_arm-out a = fold_out-Arm Reading (Reading × Reading) (marked_form picks cell) (arm_of Reading) a

  abbrev M-arm : Arm → Seen Value × Seen Value
  M-arm = arm_at s picks cell

  -- in one setting a reading is what it gives there
  abbrev At : Reading → Seen Value → Type 0
  At f y = f s ≡ y

  then_at : (x : Reading) (y : Seen Value) (f : Value → Reading) (g : Value → Seen Value) → At x y → ((v : Value) → At (f v) (g v)) → At (read_then x f) (seen_then y g)
  then_at x y f g e h = subst (λ z. At (read_then x f) (seen_then z g)) e (at_once (x s).marked (x s).answer)
    where
      at_once : (m : Bool) (a : Answer Value) → go_on m a (λ v. f v s) ≡ go_on m a g
      at_once m (Ok v) = ap (after m) (h v)
      at_once m (Err d) = refl

  give_at : (a : Answer Value) → At (λ s. unmarked a) (unmarked a)
  give_at a = refl

  each_at : (list : List Expr) → EachR Reading (Seen Value) read_then seen_then (λ a s. unmarked a) unmarked At then_at give_at (map N list) (map M list)
  unfolding marked_at
  each_at [] = tt
  each_at (x ∷ xs) = (refl, each_at xs)

  arms_at : (arms : List Arm) → EachArm Reading (Seen Value) read_then seen_then (λ a s. unmarked a) unmarked At then_at give_at (map folded_arm arms) (map M-arm arms)
  unfolding marked_at
  arms_at [] = tt
  arms_at (a ∷ arms) = ((ap (λ (p : Reading × Reading). p.0 s) (folded_arm-out a), ap (λ (p : Reading × Reading). p.1 s) (folded_arm-out a)), arms_at arms)

  pub M-Literal : (v : Value) → M (Literal v) ≡ unmarked (Ok v)
  M-Literal v = ap M (sym (rolls-Literal v)) ∙ M-roll (Expr-F.Literal v)

  pub M-Column : (q : Option (List ℕ)) (name : List ℕ) → M (Column q name) ≡ find_marked s.row q name
  M-Column q name = ap M (sym (rolls-Column q name)) ∙ M-roll (Expr-F.Column q name)

  pub M-Unary : (op : UnaryOp) (x : Expr) → M (Unary op x) ≡ seen_then (M x) (λ v. unmarked (unary_of op v))
  unfolding marked_at
  M-Unary op x = ap M (sym (rolls-Unary op x)) ∙ M-roll (Expr-F.Unary op x)

  pub M-Binary : (op : BinaryOp) (a b : Expr) → M (Binary op a b) ≡ applied (Seen Value) seen_then unmarked op (M a) (M b)
  unfolding marked_at
  M-Binary op a b = ap M (sym (rolls-Binary op a b)) ∙ M-roll (Expr-F.Binary op a b)
      ∙ applied_R Reading (Seen Value) read_then seen_then (λ a s. unmarked a) unmarked At then_at give_at op (N a) (N b) (M a) (M b) refl refl

  pub M-IsNull : (x : Expr) (negate : Bool) → M (IsNull x negate) ≡ seen_then (M x) (λ v. unmarked (Ok (null_test negate v)))
  unfolding marked_at
  M-IsNull x negate = ap M (sym (rolls-IsNull x negate)) ∙ M-roll (Expr-F.IsNull x negate)

  pub M-Like : (x y : Expr) (negate : Bool) → M (Like x y negate) ≡ like_of (Seen Value) seen_then unmarked (M x) (M y) negate
  unfolding marked_at
  M-Like x y negate = ap M (sym (rolls-Like x y negate)) ∙ M-roll (Expr-F.Like x y negate)
      ∙ like_of_R Reading (Seen Value) read_then seen_then (λ a s. unmarked a) unmarked At then_at give_at (N x) (N y) (M x) (M y) negate refl refl

  pub M-OneOf : (x : Expr) (list : List Expr) (negate : Bool) → M (OneOf x list negate) ≡ one_of (Seen Value) seen_then unmarked (M x) (map M list) negate
  unfolding marked_at
  M-OneOf x list negate = ap M (sym (rolls-OneOf x list negate)) ∙ M-roll (Expr-F.OneOf x list negate)
      ∙ one_of_R Reading (Seen Value) read_then seen_then (λ a s. unmarked a) unmarked At then_at give_at (N x) (M x) (map N list) (map M list) negate refl (each_at list)

  pub M-Case : (arms : List Arm) (otherwise : Option Expr) →
      M (Case arms otherwise) ≡ first_arm (Seen Value) seen_then unmarked (map M-arm arms) (otherwise_at s picks cell otherwise)
  unfolding marked_at
  M-Case arms None =
      ap M (sym (rolls-Case arms None)) ∙ M-roll (Expr-F.Case arms None)
      ∙ first_arm_R Reading (Seen Value) read_then seen_then (λ a s. unmarked a) unmarked At then_at give_at _ _ (λ s. unmarked (Ok Null)) (unmarked (Ok Null)) (arms_at arms) refl
  M-Case arms (Some x) =
      ap M (sym (rolls-Case arms (Some x))) ∙ M-roll (Expr-F.Case arms (Some x))
      ∙ first_arm_R Reading (Seen Value) read_then seen_then (λ a s. unmarked a) unmarked At then_at give_at _ _ (N x) (M x) (arms_at arms) refl

  pub M-Coalesce : (list : List Expr) → M (Coalesce list) ≡ first_value (Seen Value) seen_then unmarked (map M list)
  unfolding marked_at
  M-Coalesce list = ap M (sym (rolls-Coalesce list)) ∙ M-roll (Expr-F.Coalesce list)
      ∙ first_value_R Reading (Seen Value) read_then seen_then (λ a s. unmarked a) unmarked At then_at give_at (map N list) (map M list) (each_at list)

  pub M-Cast : (x : Expr) (kind : ColumnType) → M (Cast x kind) ≡ seen_then (M x) (λ v. unmarked (cast kind v))
  unfolding marked_at
  M-Cast x kind = ap M (sym (rolls-Cast x kind)) ∙ M-roll (Expr-F.Cast x kind)

  pub M-Caveat : (x : Expr) (message : List ℕ) (call : ℕ) → M (Caveat x message call) ≡ caveat_marked picks cell call (M x)
  unfolding marked_at
  M-Caveat x message call = ap M (sym (rolls-Caveat x message call)) ∙ M-roll (Expr-F.Caveat x message call)

  pub M-CountAll : M CountAll ≡ count_marked s.group s.marked
  M-CountAll = ap M (sym rolls-CountAll) ∙ M-roll Expr-F.CountAll

  pub M-Count : (x : Expr) → M (Count x) ≡ over_at aggregate.Count s picks cell x
  unfolding marked_at over_at
  M-Count x = ap M (sym (rolls-Count x)) ∙ M-roll (Expr-F.Count x)

  pub M-Sum : (x : Expr) → M (Sum x) ≡ over_at aggregate.Sum s picks cell x
  unfolding marked_at over_at
  M-Sum x = ap M (sym (rolls-Sum x)) ∙ M-roll (Expr-F.Sum x)

  pub M-Min : (x : Expr) → M (Min x) ≡ over_at aggregate.Min s picks cell x
  unfolding marked_at over_at
  M-Min x = ap M (sym (rolls-Min x)) ∙ M-roll (Expr-F.Min x)

  pub M-Max : (x : Expr) → M (Max x) ≡ over_at aggregate.Max s picks cell x
  unfolding marked_at over_at
  M-Max x = ap M (sym (rolls-Max x)) ∙ M-roll (Expr-F.Max x)

-- what the evaluator's proofs use
pub ruleset readings = (M-Literal, M-Column, M-Unary, M-Binary, M-IsNull, M-Like, M-OneOf, M-Case, M-Coalesce, M-Cast, M-Caveat, M-CountAll, M-Count, M-Sum, M-Min, M-Max, sees_wrong)
