-- What an expression gives over values that fit their columns is of its static type.
use Rattle.std.proofs.Common.{◌≡◌, ℕ, pos, length, Bool, true, false, Option, Some, None, Ok, List, [], ◌∷◌, map, subst, sym}
use Rattle.std.specs.Bool.{⊤}
use Rattle.std.specs.List.{Contains}
use Rattle.value_types.specs.declared.value.ColumnType.TheVariants as kind
use Rattle.value_types.specs.declared.value.Value.{Value}
use Rattle.value_types.specs.declared.value.Value.TheVariants.{Int}
use Rattle.dataset_types.specs.declared.picks.Pick.{Pick}
use Rattle.cell_errors.specs.Answers.{Answer}
use Rattle.cell_errors.specs.Seen.{Seen}
use Rattle.expr_lang.specs.declared.expr.Expr.{Expr, roll-Expr}
use Rattle.expr_lang.specs.declared.expr.Arm.{Arm}
use Rattle.expr_lang.specs.declared.expr.Expr.TheViews.{out-roll-Arm}
use Rattle.expr_lang.specs.declared.expr.Expr.TheOpen.{Expr-F}
use Rattle.expr_lang.specs.declared.expr.Expr.TheFolds.{map-Expr, ind-Expr}
use Rattle.expr_lang.specs.declared.expr.Expr.TheVariants.{rolls-Literal, rolls-Column, rolls-Unary, rolls-Binary, rolls-IsNull, rolls-Like, rolls-OneOf, rolls-Case, rolls-Coalesce, rolls-Cast, rolls-Caveat, rolls-CountAll, rolls-Count, rolls-Sum, rolls-Min, rolls-Max}
use Rattle.expr_ops.specs.declared.aggregates.Aggregate.{Aggregate}
use Rattle.expr_ops.specs.declared.aggregates.Aggregate.TheVariants as aggregate
use Rattle.expr_ops.specs.Truths.{null_test}
use Rattle.expr_ops.specs.Casts.{cast}
use Rattle.expr_ops.specs.Ops.{unary_of}
use Rattle.expr_meaning.specs.declared.bindings.Binding.{Binding}
use Rattle.expr_meaning.specs.declared.bindings.ScopeColumn.{ScopeColumn}
use Rattle.expr_meaning.specs.declared.expr_type.ExprType.{ExprType}
use Rattle.expr_meaning.specs.declared.expr_type.ExprType.TheVariants.{Null as Unknown, Of}
use Rattle.expr_meaning.specs.Names.{Name}
use Rattle.expr_meaning.specs.Settings.{MarkedSetting, at_row}
use Rattle.expr_meaning.specs.Meaning.{find_marked, count_marked, over_marked, marked_at, over_at}
use Rattle.expr_meaning.specs.Steps.{arm_at}
use Rattle.expr_meaning.specs.Types.{TypeSetting, type_of_value, unary_type, cast_type, aggregate_type, column_type, arm_type_at, over_columns, type_at, over_type_at, count_typing, over_typing}
use Rattle.expr_meaning.proofs.Alike.{meant_each}
use Rattle.expr_meaning.proofs.Readings.{M-Literal, M-Column, M-Unary, M-Binary, M-IsNull, M-Like, M-OneOf, M-Case, M-Coalesce, M-Cast, M-Caveat, M-CountAll, M-Count, M-Sum, M-Min, M-Max}
use Rattle.expr_meaning.proofs.Typings.{T-Literal, T-Column, T-Unary, T-Binary, T-IsNull, T-Like, T-OneOf, T-Case, T-Coalesce, T-Cast, T-Caveat, T-CountAll, T-Count, T-Sum, T-Min, T-Max}
use Rattle.relations.proofs.Gathered.{fine, the_same, then_ok}
use Rattle.relations.proofs.TypedOps.{Is, null_is, exactly, cast_type_is, unary_is, cast_is}
use Rattle.expr_ops.specs.Aggregates.{not_null, aggregate_of}
use Rattle.relations.proofs.TypedParts.{Sound, sound_then, applied_is, like_of_is, one_of_is, EachSound, EachArmSound, first_value_is, first_arm_is, caveat_is, IsBound, EachIsBound, bound_is, each_not_null, not_null_is, all_are}

-- ---- settings

-- rows whose bindings are of the types of the columns
abbrev pub EachFits : List (List Binding) → List ScopeColumn → Type 0
EachFits rows columns = (r : List Binding) → Contains rows r → EachIsBound r columns

abbrev pub GroupIsBound : Option (List (List Binding)) → Option (List ScopeColumn) → Type 0
GroupIsBound None None = ⊤
GroupIsBound (Some rows) (Some columns) = EachFits rows columns
GroupIsBound _ _ = ⊥

-- a setting whose row, and whose group where there is one, fit the columns
pub record Fits (s : MarkedSetting) (ts : TypeSetting) : Type 0 where
  pub row : EachIsBound s.row ts.columns
  pub group : GroupIsBound s.group ts.group

-- over a row alone
pub row_fits_in : (row : List Binding) (columns : List ScopeColumn) → EachIsBound row columns → Fits (at_row row) (over_columns columns)
row_fits_in row columns are = record { row = are; group = tt }

-- ---- expressions

module _ (picks : List Pick) (cell : ℕ) where
  abbrev pub Law : Expr → Type 0
  Law e = (s : MarkedSetting) (ts : TypeSetting) → Fits s ts → Sound (marked_at s picks cell e) (type_at ts e)

  abbrev ArmLaw : Arm → Type 0
  ArmLaw a = (s : MarkedSetting) (ts : TypeSetting) → Fits s ts → Sound (arm_at s picks cell a).1 (arm_type_at ts a).1

  abbrev Known : Type 0
  Known = (e : Expr) × Law e

  abbrev KnownArm : Type 0
  KnownArm = (a : Arm) × ArmLaw a

  named_is : (s : MarkedSetting) (ts : TypeSetting) → Fits s ts → (q : Option Name) (name : Name) → Sound (find_marked s.row q name) (column_type ts.columns q name)
  named_is s ts f q name =
      bound_is _ _ (meant_each Binding ScopeColumn (λ b. b.qualifier) (λ b. b.name) (λ c. c.qualifier) (λ c. c.column.name) IsBound (λ b c e. e.0) (λ b c e. e.1) q name s.row ts.columns f.row)

  over_is : (op : Aggregate) (x : Expr) → Law x → (s : MarkedSetting) (ts : TypeSetting) → Fits s ts → Sound (over_at op s picks cell x) (over_type_at op ts x)
  unfolding over_at over_type_at
  over_is op x law s ts f = at s.group ts.group f.group
    where
      at : (g : Option (List (List Binding))) (h : Option (List ScopeColumn)) → GroupIsBound g h →
          Sound (over_marked op (λ r. marked_at r picks cell x) g s.marked) (over_typing op (λ r. type_at r x) h)
      at None None u r v e k = cc
      at None (Some columns) u r v e k = absurd u
      at (Some rows) None u r v e k = absurd u
      at (Some rows) (Some columns) u r v e k =
          let p = then_ok (type_at (over_columns columns) x) (aggregate_type op) r e in
          let q = all_are (λ row. marked_at (at_row row) picks cell x) p.0 rows (λ row c w is. law (at_row row) (over_columns columns) (row_fits_in row columns (u row c)) p.0 w p.1 is)
          [] tt (aggregate_of op) v k in
          not_null_is op p.0 r (not_null q.0) v (each_not_null p.0 q.0 q.1) p.2 q.2

  counted_is : (s : MarkedSetting) (ts : TypeSetting) → Fits s ts → Sound (count_marked s.group s.marked) (count_typing ts.group)
  counted_is s ts f = at s.group ts.group f.group
    where
      at : (g : Option (List (List Binding))) (h : Option (List ScopeColumn)) → GroupIsBound g h → Sound (count_marked g s.marked) (count_typing h)
      at None None u r v e k = cc
      at None (Some columns) u r v e k = absurd u
      at (Some rows) None u r v e k = absurd u
      at (Some rows) (Some columns) u r v e k = subst (Is v) (the_same (Of kind.Int) r e) (exactly (Int (pos (length rows))) v k)

  module _ (s : MarkedSetting) (ts : TypeSetting) (f : Fits s ts) where
    abbrev M : Expr → Seen Value
    M = marked_at s picks cell

    abbrev T : Expr → Answer ExprType
    T = type_at ts

    abbrev Here : Expr → Type 0
    Here e = Sound (M e) (T e)

    each_sound : (es : List Known) → EachSound (map M (map (λ e. e.0) es)) (map T (map (λ e. e.0) es))
    each_sound [] = tt
    each_sound (e ∷ es) = (e.1 s ts f, each_sound es)

    each_arm : (es : List KnownArm) → EachArmSound (map (arm_at s picks cell) (map (λ a. a.0) es)) (map (arm_type_at ts) (map (λ a. a.0) es))
    each_arm [] = tt
    each_arm (e ∷ es) = (e.1 s ts f, each_arm es)

    tested_is : (n : Bool) (a v : Value) → fine (null_test n a) ≡ fine v → Is v (Of kind.Bool)
    tested_is true a v e = exactly _ v e
    tested_is false a v e = exactly _ v e

    -- a form, from the laws of its parts
    form_is : (y : Expr-F Known KnownArm) → Here (roll-Expr (map-Expr Known KnownArm Expr Arm (λ e. e.0) (λ a. a.0) y))
    form_is (Expr-F.Literal w) =
        subst Here (sym (rolls-Literal w)) (rw (M-Literal s picks cell w, T-Literal ts w) (λ t v e k. subst (Is v) (the_same (type_of_value w) t e) (exactly w v k)))
    form_is (Expr-F.Column q name) =
        subst Here (sym (rolls-Column q name)) (rw (M-Column s picks cell q name, T-Column ts q name) (named_is s ts f q name))
    form_is (Expr-F.Unary op x) =
        subst Here (sym (rolls-Unary op x.0)) (rw (M-Unary s picks cell op x.0, T-Unary ts op x.0)
        (sound_then (M x.0) (T x.0) (unary_of op) (unary_type op) (x.1 s ts f) (λ t r a v i h e. unary_is op t r a v i h e)))
    form_is (Expr-F.Binary op x y) =
        subst Here (sym (rolls-Binary op x.0 y.0)) (rw (M-Binary s picks cell op x.0 y.0, T-Binary ts op x.0 y.0)
        (applied_is op (M x.0) (M y.0) (T x.0) (T y.0) (x.1 s ts f) (y.1 s ts f)))
    form_is (Expr-F.IsNull x negate) =
        subst Here (sym (rolls-IsNull x.0 negate)) (rw (M-IsNull s picks cell x.0 negate, T-IsNull ts x.0 negate)
        (sound_then (M x.0) (T x.0) (λ a. Ok (null_test negate a)) (λ t. Ok (Of kind.Bool)) (x.1 s ts f) (λ t r a v i h e. subst (Is v) (the_same (Of kind.Bool) r h) (tested_is negate a v e))))
    form_is (Expr-F.Like x y negate) =
        subst Here (sym (rolls-Like x.0 y.0 negate)) (rw (M-Like s picks cell x.0 y.0 negate, T-Like ts x.0 y.0 negate)
        (like_of_is (M x.0) (M y.0) negate (T x.0) (T y.0)))
    form_is (Expr-F.OneOf x list negate) =
        subst Here (sym (rolls-OneOf x.0 (map (λ e. e.0) list) negate)) (rw (M-OneOf s picks cell x.0 (map (λ e. e.0) list) negate, T-OneOf ts x.0 (map (λ e. e.0) list) negate)
        (one_of_is (M x.0) (map M (map (λ e. e.0) list)) negate (T x.0) (map T (map (λ e. e.0) list))))
    form_is (Expr-F.Case arms None) =
        subst Here (sym (rolls-Case (map (λ a. a.0) arms) None)) (rw (M-Case s picks cell (map (λ a. a.0) arms) None, T-Case ts (map (λ a. a.0) arms) None)
        (first_arm_is _ _ (Ok Unknown) _ (Ok Unknown) (each_arm arms) (λ t v e k. null_is v t k)))
    form_is (Expr-F.Case arms (Some x)) =
        subst Here (sym (rolls-Case (map (λ a. a.0) arms) (Some x.0))) (rw (M-Case s picks cell (map (λ a. a.0) arms) (Some x.0), T-Case ts (map (λ a. a.0) arms) (Some x.0))
        (first_arm_is _ _ (Ok Unknown) (M x.0) (T x.0) (each_arm arms) (x.1 s ts f)))
    form_is (Expr-F.Coalesce list) =
        subst Here (sym (rolls-Coalesce (map (λ e. e.0) list))) (rw (M-Coalesce s picks cell (map (λ e. e.0) list), T-Coalesce ts (map (λ e. e.0) list))
        (first_value_is _ _ (Ok Unknown) (each_sound list)))
    form_is (Expr-F.Cast x k) =
        subst Here (sym (rolls-Cast x.0 k)) (rw (M-Cast s picks cell x.0 k, T-Cast ts x.0 k)
        (sound_then (M x.0) (T x.0) (cast k) (cast_type k) (x.1 s ts f) (λ t r a v i h e. subst (Is v) (sym (cast_type_is k t r h)) (cast_is k a v e))))
    form_is (Expr-F.Caveat x message call) =
        subst Here (sym (rolls-Caveat x.0 message call)) (rw (M-Caveat s picks cell x.0 message call, T-Caveat ts x.0 message call)
        (caveat_is picks cell call (M x.0) (T x.0) (x.1 s ts f)))
    form_is Expr-F.CountAll = subst Here (sym rolls-CountAll) (rw (M-CountAll s picks cell, T-CountAll ts) (counted_is s ts f))
    form_is (Expr-F.Count x) = subst Here (sym (rolls-Count x.0)) (rw (M-Count s picks cell x.0, T-Count ts x.0) (over_is aggregate.Count x.0 x.1 s ts f))
    form_is (Expr-F.Sum x) = subst Here (sym (rolls-Sum x.0)) (rw (M-Sum s picks cell x.0, T-Sum ts x.0) (over_is aggregate.Sum x.0 x.1 s ts f))
    form_is (Expr-F.Min x) = subst Here (sym (rolls-Min x.0)) (rw (M-Min s picks cell x.0, T-Min ts x.0) (over_is aggregate.Min x.0 x.1 s ts f))
    form_is (Expr-F.Max x) = subst Here (sym (rolls-Max x.0)) (rw (M-Max s picks cell x.0, T-Max ts x.0) (over_is aggregate.Max x.0 x.1 s ts f))

  -- what an expression gives is of its type
  pub value_is : (e : Expr) → Law e
  value_is = ind-Expr Law ArmLaw
      (λ x y is s ts f. subst (λ z. Sound (marked_at s picks cell (roll-Expr z)) (type_at ts (roll-Expr z))) is (form_is s ts f y))
      (λ x y is s ts f. rw (out-roll-Arm x) (subst (λ z. Sound (marked_at s picks cell z.answer) (type_at ts z.answer)) is (y.answer.1 s ts f)))
