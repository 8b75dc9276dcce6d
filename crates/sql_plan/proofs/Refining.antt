-- A setting whose names stand for no less gives an expression the same type.
use Rattle.std.proofs.Common.{◌≡◌, Option, Some, None, Ok, List, [], ◌∷◌, map, sym, ap, subst}
use Rattle.std.specs.Bool.{⊤}
use Rattle.value_types.specs.declared.value.ColumnType.TheVariants as kind
use Rattle.cell_errors.specs.Answers.{Answer, and_then}
use Rattle.expr_lang.specs.declared.ops.BinaryOp.{BinaryOp}
use Rattle.expr_lang.specs.declared.expr.Expr.{Expr, roll-Expr}
use Rattle.expr_lang.specs.declared.expr.Arm.{Arm}
use Rattle.expr_lang.specs.declared.expr.Expr.TheViews.{out-roll-Arm}
use Rattle.expr_lang.specs.declared.expr.Expr.TheOpen.{Expr-F}
use Rattle.expr_lang.specs.declared.expr.Expr.TheFolds.{map-Expr, ind-Expr}
use Rattle.expr_lang.specs.declared.expr.Expr.TheVariants.{rolls-Literal, rolls-Column, rolls-Unary, rolls-Binary, rolls-IsNull, rolls-Like, rolls-OneOf, rolls-Case, rolls-Coalesce, rolls-Cast, rolls-Caveat, rolls-CountAll, rolls-Count, rolls-Sum, rolls-Min, rolls-Max}
use Rattle.expr_ops.specs.declared.aggregates.Aggregate.{Aggregate}
use Rattle.expr_ops.specs.declared.aggregates.Aggregate.TheVariants as aggregate
use Rattle.expr_meaning.specs.declared.expr_type.ExprType.{ExprType}
use Rattle.expr_meaning.specs.declared.expr_type.ExprType.TheVariants.{Null, Of}
use Rattle.expr_meaning.specs.Names.{Name}
use Rattle.expr_meaning.specs.Types.{TypeSetting, where_bool, unary_type, left_type, cast_type, comparison_type, binary_typing, like_typing, list_typing, agree, agreed, arms_typing, column_type, over_typing, type_at, over_type_at, arm_type_at}
use Rattle.expr_meaning.proofs.Typings.{T-Literal, T-Column, T-Unary, T-Binary, T-IsNull, T-Like, T-OneOf, T-Case, T-Coalesce, T-Cast, T-Caveat, T-CountAll, T-Count, T-Sum, T-Min, T-Max}
use Rattle.relations.specs.declared.parts.Item.{Item}
use Rattle.relations.proofs.Gathered.{then_ok}
use Rattle.rel_ops.specs.Project.{item_column, item_columns}

-- what the first gives without error, the other gives
abbrev pub Below : {A : Type 0} → Answer A → Answer A → Type 0
Below {A = A} a b = (x : A) → a ≡ Ok x → b ≡ Ok x

itself : {A : Type 0} (a : Answer A) → Below a a
itself a x e = e

below_then : {A B : Type 0} (a b : Answer A) (f g : A → Answer B) → Below a b → ((x : A) → Below (f x) (g x)) → Below (and_then a f) (and_then b g)
below_then a b f g h k y e = let p = then_ok a f y e in rw (h p.0 p.1) (k p.0 y p.2)

-- the same, pair by pair
abbrev EachBelow : List (Answer ExprType) → List (Answer ExprType) → Type 0
EachBelow [] [] = ⊤
EachBelow (x ∷ xs) (y ∷ ys) = Below x y × EachBelow xs ys
EachBelow _ _ = ⊥

abbrev EachArmBelow : List (Answer ExprType × Answer ExprType) → List (Answer ExprType × Answer ExprType) → Type 0
EachArmBelow [] [] = ⊤
EachArmBelow (x ∷ xs) (y ∷ ys) = (Below x.0 y.0 × Below x.1 y.1) × EachArmBelow xs ys
EachArmBelow _ _ = ⊥

binary_below : (op : BinaryOp) (a b c d : Answer ExprType) → Below a c → Below b d → Below (binary_typing op a b) (binary_typing op c d)
binary_below op a b c d h k =
    below_then a c _ _ h (λ t. below_then (left_type op t) (left_type op t) _ _ (itself _) (λ v. below_then b d _ _ k (λ u. itself _)))

like_below : (a b c d : Answer ExprType) → Below a c → Below b d → Below (like_typing a b) (like_typing c d)
like_below a b c d h k = below_then a c _ _ h (λ t. below_then b d _ _ k (λ u. itself _))

list_below : (t : ExprType) (xs ys : List (Answer ExprType)) → EachBelow xs ys → Below (list_typing t xs) (list_typing t ys)
list_below t [] [] e = itself _
list_below t (x ∷ xs) (y ∷ ys) e =
    below_then x y _ _ e.0 (λ u. below_then (comparison_type t u) (comparison_type t u) _ _ (itself _) (λ v. list_below t xs ys e.1))
list_below t [] (y ∷ ys) e = absurd e
list_below t (x ∷ xs) [] e = absurd e

agreed_below : (sofar : Answer ExprType) (xs ys : List (Answer ExprType)) → EachBelow xs ys → Below (agreed sofar xs) (agreed sofar ys)
agreed_below sofar [] [] e = itself _
agreed_below sofar (x ∷ xs) (y ∷ ys) e = below_then x y _ _ e.0 (λ t. agreed_below (agree sofar t) xs ys e.1)
agreed_below sofar [] (y ∷ ys) e = absurd e
agreed_below sofar (x ∷ xs) [] e = absurd e

arms_below : (sofar : Answer ExprType) (xs ys : List (Answer ExprType × Answer ExprType)) (o p : Answer ExprType) → EachArmBelow xs ys → Below o p →
    Below (arms_typing sofar xs o) (arms_typing sofar ys p)
arms_below sofar [] [] o p e h = agreed_below sofar (o ∷ []) (p ∷ []) (h, tt)
arms_below sofar (a ∷ xs) (b ∷ ys) o p e h =
    below_then a.0 b.0 _ _ e.0.0 (λ c. below_then (where_bool (Of kind.Bool) c) (where_bool (Of kind.Bool) c) _ _ (itself _)
    (λ v. below_then a.1 b.1 _ _ e.0.1 (λ t. arms_below (agree sofar t) xs ys o p e.1 h)))
arms_below sofar [] (b ∷ ys) o p e h = absurd e
arms_below sofar (a ∷ xs) [] o p e h = absurd e

module _ (s t : TypeSetting) (group : s.group ≡ t.group) (names : (q : Option Name) (n : Name) → Below (column_type s.columns q n) (column_type t.columns q n)) where
  abbrev Here : Expr → Type 0
  Here e = Below (type_at s e) (type_at t e)

  abbrev ArmHere : Arm → Type 0
  ArmHere a = Below (arm_type_at s a).0 (arm_type_at t a).0 × Below (arm_type_at s a).1 (arm_type_at t a).1

  abbrev Known : Type 0
  Known = (e : Expr) × Here e

  abbrev KnownArm : Type 0
  KnownArm = (a : Arm) × ArmHere a

  each_below : (es : List Known) → EachBelow (map (type_at s) (map (λ e. e.0) es)) (map (type_at t) (map (λ e. e.0) es))
  each_below [] = tt
  each_below (e ∷ es) = (e.1, each_below es)

  each_arm_below : (es : List KnownArm) → EachArmBelow (map (arm_type_at s) (map (λ a. a.0) es)) (map (arm_type_at t) (map (λ a. a.0) es))
  each_arm_below [] = tt
  each_arm_below (e ∷ es) = ((e.1.0, e.1.1), each_arm_below es)

  over_same : (op : Aggregate) (x : Expr) → over_type_at op s x ≡ over_type_at op t x
  unfolding over_type_at
  over_same op x = ap (over_typing op (λ r. type_at r x)) group

  form_below : (y : Expr-F Known KnownArm) → Here (roll-Expr (map-Expr Known KnownArm Expr Arm (λ e. e.0) (λ a. a.0) y))
  form_below (Expr-F.Literal w) = subst Here (sym (rolls-Literal w)) (rw (T-Literal s w, T-Literal t w) (itself _))
  form_below (Expr-F.Column q name) = subst Here (sym (rolls-Column q name)) (rw (T-Column s q name, T-Column t q name) (names q name))
  form_below (Expr-F.Unary op x) =
      subst Here (sym (rolls-Unary op x.0)) (rw (T-Unary s op x.0, T-Unary t op x.0)
      (below_then (type_at s x.0) (type_at t x.0) (unary_type op) (unary_type op) x.1 (λ u. itself _)))
  form_below (Expr-F.Binary op x y) =
      subst Here (sym (rolls-Binary op x.0 y.0)) (rw (T-Binary s op x.0 y.0, T-Binary t op x.0 y.0)
      (binary_below op (type_at s x.0) (type_at s y.0) (type_at t x.0) (type_at t y.0) x.1 y.1))
  form_below (Expr-F.IsNull x negate) =
      subst Here (sym (rolls-IsNull x.0 negate)) (rw (T-IsNull s x.0 negate, T-IsNull t x.0 negate)
      (below_then (type_at s x.0) (type_at t x.0) (λ u. Ok (Of kind.Bool)) (λ u. Ok (Of kind.Bool)) x.1 (λ u. itself _)))
  form_below (Expr-F.Like x y negate) =
      subst Here (sym (rolls-Like x.0 y.0 negate)) (rw (T-Like s x.0 y.0 negate, T-Like t x.0 y.0 negate)
      (like_below (type_at s x.0) (type_at s y.0) (type_at t x.0) (type_at t y.0) x.1 y.1))
  form_below (Expr-F.OneOf x list negate) =
      subst Here (sym (rolls-OneOf x.0 (map (λ e. e.0) list) negate)) (rw (T-OneOf s x.0 (map (λ e. e.0) list) negate, T-OneOf t x.0 (map (λ e. e.0) list) negate)
      (below_then (type_at s x.0) (type_at t x.0) _ _ x.1 (λ u. list_below u _ _ (each_below list))))
  form_below (Expr-F.Case arms None) =
      subst Here (sym (rolls-Case (map (λ a. a.0) arms) None)) (rw (T-Case s (map (λ a. a.0) arms) None, T-Case t (map (λ a. a.0) arms) None)
      (arms_below (Ok Null) _ _ (Ok Null) (Ok Null) (each_arm_below arms) (itself _)))
  form_below (Expr-F.Case arms (Some x)) =
      subst Here (sym (rolls-Case (map (λ a. a.0) arms) (Some x.0))) (rw (T-Case s (map (λ a. a.0) arms) (Some x.0), T-Case t (map (λ a. a.0) arms) (Some x.0))
      (arms_below (Ok Null) _ _ (type_at s x.0) (type_at t x.0) (each_arm_below arms) x.1))
  form_below (Expr-F.Coalesce list) =
      subst Here (sym (rolls-Coalesce (map (λ e. e.0) list))) (rw (T-Coalesce s (map (λ e. e.0) list), T-Coalesce t (map (λ e. e.0) list))
      (agreed_below (Ok Null) _ _ (each_below list)))
  form_below (Expr-F.Cast x k) =
      subst Here (sym (rolls-Cast x.0 k)) (rw (T-Cast s x.0 k, T-Cast t x.0 k)
      (below_then (type_at s x.0) (type_at t x.0) (cast_type k) (cast_type k) x.1 (λ u. itself _)))
  form_below (Expr-F.Caveat x message call) =
      subst Here (sym (rolls-Caveat x.0 message call)) (rw (T-Caveat s x.0 message call, T-Caveat t x.0 message call) x.1)
  form_below Expr-F.CountAll = subst Here (sym rolls-CountAll) (rw (T-CountAll s, T-CountAll t, group) (itself _))
  form_below (Expr-F.Count x) = subst Here (sym (rolls-Count x.0)) (rw (T-Count s x.0, T-Count t x.0, over_same aggregate.Count x.0) (itself _))
  form_below (Expr-F.Sum x) = subst Here (sym (rolls-Sum x.0)) (rw (T-Sum s x.0, T-Sum t x.0, over_same aggregate.Sum x.0) (itself _))
  form_below (Expr-F.Min x) = subst Here (sym (rolls-Min x.0)) (rw (T-Min s x.0, T-Min t x.0, over_same aggregate.Min x.0) (itself _))
  form_below (Expr-F.Max x) = subst Here (sym (rolls-Max x.0)) (rw (T-Max s x.0, T-Max t x.0, over_same aggregate.Max x.0) (itself _))

  -- an expression with a type there has it here
  pub type_kept : (e : Expr) → Here e
  type_kept = ind-Expr Here ArmHere
      (λ x y is. subst (λ z. Below (type_at s (roll-Expr z)) (type_at t (roll-Expr z))) is (form_below y))
      (λ x y is. rw (out-roll-Arm x)
      (subst (λ z. Below (type_at s z.condition) (type_at t z.condition) × Below (type_at s z.answer) (type_at t z.answer)) is (y.condition.1, y.answer.1)))

  item_kept : (i : Item) → Below (item_column s i) (item_column t i)
  item_kept i = below_then (type_at s i.expr) (type_at t i.expr) _ _ (type_kept i.expr) (λ u. itself _)

  -- items with output columns there have them here
  pub items_kept : (items : List Item) → Below (item_columns s items) (item_columns t items)
  items_kept [] = itself _
  items_kept (i ∷ is) =
      below_then (item_column s i) (item_column t i) _ _ (item_kept i)
      (λ c. below_then (item_columns s is) (item_columns t is) _ _ (items_kept is) (λ cs. itself _))
