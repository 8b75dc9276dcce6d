-- An expression that is typed and gives a value over a group gives the same over its rows in another order.
use Rattle.std.proofs.Common.{◌≡◌, ℕ, pos, Bool, ◌||◌, Some, None, Ok, Err, List, [], ◌∷◌, ◌++◌, map, refl, subst, ap, ◌∙◌, sym, append-nil}
use Rattle.std.specs.Prelude.{IsTrue}
use Rattle.std.specs.Bool.{⊤}
use Rattle.std.specs.List.{list_any}
use Rattle.value_types.specs.declared.value.Value.{Value}
use Rattle.value_types.specs.declared.value.Value.TheVariants.{Null, Int}
use Rattle.value_types.specs.declared.value.ColumnType.TheVariants as kind
use Rattle.dataset_types.specs.declared.picks.Pick.{Pick}
use Rattle.cell_errors.specs.Answers.{Answer, and_then}
use Rattle.cell_errors.specs.Seen.{Seen, seen_then, go_on, after, unmarked}
use Rattle.expr_lang.specs.declared.expr.Expr.{Expr, roll-Expr}
use Rattle.expr_lang.specs.declared.expr.Arm.{Arm, out-Arm}
use Rattle.expr_lang.specs.declared.expr.Expr.TheViews.{out-roll-Arm}
use Rattle.expr_lang.specs.declared.expr.Expr.TheOpen.{Expr-F}
use Rattle.expr_lang.specs.declared.expr.Expr.TheFolds.{map-Expr, ind-Expr}
use Rattle.expr_lang.specs.declared.expr.Expr.TheVariants.{rolls-Literal, rolls-Column, rolls-Unary, rolls-Binary, rolls-IsNull, rolls-Like, rolls-OneOf, rolls-Case, rolls-Coalesce, rolls-Cast, rolls-Caveat, rolls-CountAll, rolls-Count, rolls-Sum, rolls-Min, rolls-Max}
use Rattle.expr_ops.specs.declared.aggregates.Aggregate.{Aggregate}
use Rattle.expr_ops.specs.declared.aggregates.Aggregate.TheVariants as aggregate
use Rattle.expr_ops.specs.Aggregates.{aggregate_of}
use Rattle.expr_ops.specs.Ops.{unary_of}
use Rattle.expr_ops.specs.Truths.{null_test}
use Rattle.expr_ops.specs.Casts.{cast}
use Rattle.expr_meaning.specs.declared.bindings.Binding.{Binding}
use Rattle.expr_meaning.specs.declared.bindings.ScopeColumn.{ScopeColumn}
use Rattle.expr_meaning.specs.declared.expr_type.ExprType.{ExprType}
use Rattle.expr_meaning.specs.declared.expr_type.ExprType.TheVariants.{Null as Unknown, Of}
use Rattle.expr_meaning.specs.Settings.{MarkedSetting, at_row}
use Rattle.expr_meaning.specs.Meaning.{count_marked, marked_at, over_at}
use Rattle.expr_meaning.specs.Steps.{arm_at, all_marked}
use Rattle.expr_meaning.specs.Types.{TypeSetting, over_columns, unary_type, left_type, binary_type, like_type, comparison_type, where_bool, cast_type, aggregate_type, agree, agreed, list_typing, arms_typing, arm_type_at, type_at, over_type_at}
use Rattle.expr_meaning.proofs.Respects.{applied_R, EachR, EachArm, one_of_R, like_of_R, first_arm_R, first_value_R}
use Rattle.expr_meaning.proofs.Readings.{M-Literal, M-Column, M-Unary, M-Binary, M-IsNull, M-Like, M-OneOf, M-Case, M-Coalesce, M-Cast, M-Caveat, M-CountAll, M-Count, M-Sum, M-Min, M-Max}
use Rattle.expr_meaning.proofs.Typings.{T-Unary, T-Binary, T-IsNull, T-Like, T-OneOf, T-Case, T-Coalesce, T-Cast, T-Caveat, T-Count, T-Sum, T-Min, T-Max}
use Rattle.relations.specs.Typed.{is_of, FitsColumns}
use Rattle.relations.proofs.TypeLaw.{keeps_type, alone}
use Rattle.relations.proofs.Gathered.{fine, then_ok, Each}
use Rattle.rel_group.proofs.Moved.{Moved, stays, more, swaps, follows, moved_map, moved_each, moved_any, moved_length}
use Rattle.rel_group.proofs.MovedValues.{aggregate_moved}

-- what gives the same where the first gives a value
abbrev pub Follows : Seen Value → Seen Value → Type 0
Follows a b = (v : Value) → a.answer ≡ Ok v → b ≡ a

then_follows : (x y : Seen Value) (f g : Value → Seen Value) → Follows x y → ((w : Value) → Follows (f w) (g w)) → Follows (seen_then x f) (seen_then y g)
then_follows x y f g r h v e = at x.answer refl e
  where
    at : (a : Answer Value) → x.answer ≡ a → (go_on x.marked a f).answer ≡ Ok v → seen_then y g ≡ go_on x.marked a f
    at (Ok w) k q = ap (λ z. seen_then z g) (r w k) ∙ (ap (λ z. go_on x.marked z g) k ∙ ap (after x.marked) (h w v q))
    at (Err d) k q = cc

give_follows : (a : Answer Value) → Follows (unmarked a) (unmarked a)
give_follows a v e = refl

abbrev EachFollows : List (Seen Value) → List (Seen Value) → Type 0
EachFollows = EachR (Seen Value) (Seen Value) seen_then seen_then unmarked unmarked Follows then_follows give_follows

abbrev EachArmFollows : List (Seen Value × Seen Value) → List (Seen Value × Seen Value) → Type 0
EachArmFollows = EachArm (Seen Value) (Seen Value) seen_then seen_then unmarked unmarked Follows then_follows give_follows

-- ---- all values of a group

-- a value for each
abbrev Give : List (Seen Value) → List Value → Type 0
Give [] [] = ⊤
Give (x ∷ xs) (w ∷ ws) = (x.answer ≡ Ok w) × Give xs ws
Give xs ws = ⊥

behind : (done : List Value) (w : Value) (ws : List Value) → (done ++ w ∷ []) ++ ws ≡ done ++ (w ∷ ws)
behind [] w ws = refl
behind (d ∷ ds) w ws = ap (λ z. d ∷ z) (behind ds w ws)

all_give : (xs : List (Seen Value)) (ws done : List Value) (k : List Value → Answer Value) → Give xs ws →
    all_marked xs done k ≡ record { marked = list_any (λ x. x.marked) xs; answer = k (done ++ ws) }
all_give [] [] done k g = ap (λ z. unmarked (k z)) (sym (append-nil done))
all_give [] (w ∷ ws) done k g = absurd g
all_give (x ∷ xs) [] done k g = absurd g
all_give (x ∷ xs) (w ∷ ws) done k g =
    ap (λ a. go_on x.marked a (λ v. all_marked xs (done ++ v ∷ []) k)) g.0
    ∙ (ap (after x.marked) (all_give xs ws (done ++ w ∷ []) k g.1)
    ∙ ap (λ z. record { marked = x.marked || list_any (λ y. y.marked) xs; answer = k z }) (behind done w ws))

give_all : (xs : List (Seen Value)) (done : List Value) (k : List Value → Answer Value) (v : Value) → (all_marked xs done k).answer ≡ Ok v → (ws : List Value) × Give xs ws
give_all [] done k v e = ([], tt)
give_all (x ∷ xs) done k v e = at x.answer refl e (λ w h. give_all xs (done ++ w ∷ []) k v h)
  where
    at : (a : Answer Value) → x.answer ≡ a → (go_on x.marked a (λ w. all_marked xs (done ++ w ∷ []) k)).answer ≡ Ok v →
        ((w : Value) → (all_marked xs (done ++ w ∷ []) k).answer ≡ Ok v → (ws : List Value) × Give xs ws) → (ws : List Value) × Give (x ∷ xs) ws
    at (Ok w) i h rest = let p = rest w h in (w ∷ p.0, (i, p.1))
    at (Err d) i h rest = cc

give_moved : (xs ys : List (Seen Value)) → Moved xs ys → (ws : List Value) → Give xs ws → (us : List Value) × Give ys us × Moved ws us
give_moved _ _ (stays xs) ws g = (ws, g, stays ws)
give_moved _ _ (more x xs ys m) [] g = absurd g
give_moved _ _ (more x xs ys m) (w ∷ ws) g = let p = give_moved xs ys m ws g.1 in (w ∷ p.0, (g.0, p.1), more w ws p.0 p.2)
give_moved _ _ (swaps x y xs) [] g = absurd g
give_moved _ _ (swaps x y xs) (w ∷ []) g = absurd g.1
give_moved _ _ (swaps x y xs) (w ∷ u ∷ ws) g = (u ∷ w ∷ ws, (g.1.0, (g.0, g.1.1)), swaps w u ws)
give_moved _ _ (follows xs ys zs m n) ws g =
    let p = give_moved xs ys m ws g in
    let q = give_moved ys zs n p.0 p.1 in (q.0, q.1, follows ws p.0 q.0 p.2 q.2)

-- ---- the forms

module _ (picks : List Pick) (cell : ℕ) (row : List Binding) (rows others : List (List Binding)) (m : Bool) (moved : Moved rows others) (cs columns : List ScopeColumn)
    (fit : Each (λ r. FitsColumns r columns) rows) where
  abbrev s : MarkedSetting
  s = record { row = row; group = Some rows; marked = m }

  abbrev s' : MarkedSetting
  s' = record { row = row; group = Some others; marked = m }

  abbrev ts : TypeSetting
  ts = record { columns = cs; group = Some columns }

  abbrev M : Expr → Seen Value
  M = marked_at s picks cell

  abbrev M' : Expr → Seen Value
  M' = marked_at s' picks cell

  abbrev T : Expr → Answer ExprType
  T = type_at ts

  abbrev pub Law : Expr → Type 0
  Law e = (t : ExprType) → T e ≡ Ok t → Follows (M e) (M' e)

  abbrev ArmLaw : Arm → Type 0
  ArmLaw a = Law (out-Arm a).condition × Law (out-Arm a).answer

  abbrev Known : Type 0
  Known = (e : Expr) × Law e

  abbrev KnownArm : Type 0
  KnownArm = (a : Arm) × ArmLaw a

  -- ---- aggregates

  give_typed : (x : Expr) (u : ExprType) → type_at (over_columns columns) x ≡ Ok u → (rs : List (List Binding)) → Each (λ r. FitsColumns r columns) rs → (ws : List Value) →
      Give (map (λ r. marked_at (at_row r) picks cell x) rs) ws → Each (λ v. IsTrue (is_of v u)) ws
  give_typed x u k [] f [] g = tt
  give_typed x u k [] f (w ∷ ws) g = absurd g
  give_typed x u k (r ∷ rs) f [] g = absurd g
  give_typed x u k (r ∷ rs) f (w ∷ ws) g = (keeps_type x (at_row r) (over_columns columns) picks cell (alone r columns f.0) u w k g.0, give_typed x u k rs f.1 ws g.1)

  over_follows : (op : Aggregate) (x : Expr) (t : ExprType) → over_type_at op ts x ≡ Ok t → Follows (over_at op s picks cell x) (over_at op s' picks cell x)
  unfolding over_at over_type_at
  over_follows op x t k v e =
      let read = λ (r : List Binding). marked_at (at_row r) picks cell x in
      let u = then_ok (type_at (over_columns columns) x) (aggregate_type op) t k in
      let p = give_all (map read rows) [] (aggregate_of op) v e in
      let xs = moved_map read rows others moved in
      let q = give_moved (map read rows) (map read others) xs p.0 p.1 in
      let same = aggregate_moved op u.0 p.0 q.0 q.2 (give_typed x u.0 u.1 rows fit p.0 p.1) (give_typed x u.0 u.1 others (moved_each (λ r. FitsColumns r columns) rows others moved fit) q.0 q.1) in
      let marks = moved_any (λ (y : Seen Value). y.marked) (map read rows) (map read others) xs in
      ap (after m) (all_give (map read others) q.0 [] (aggregate_of op) q.1
      ∙ ((λ i. record { marked = sym marks i; answer = sym same i }) ∙ sym (all_give (map read rows) p.0 [] (aggregate_of op) p.1)))

  count_follows : Follows (count_marked (Some rows) m) (count_marked (Some others) m)
  count_follows v e = ap (λ n. record { marked = m; answer = fine (Int (pos n)) }) (sym (moved_length rows others moved))

  -- ---- lists

  list_follows : (t r : ExprType) (es : List Known) → list_typing t (map T (map (λ e. e.0) es)) ≡ Ok r → EachFollows (map M (map (λ e. e.0) es)) (map M' (map (λ e. e.0) es))
  list_follows t r [] e = tt
  list_follows t r (x ∷ es) e =
      let p = then_ok (T x.0) (λ u. and_then (comparison_type t u) (λ v. list_typing t (map T (map (λ y. y.0) es)))) r e in
      let q = then_ok (comparison_type t p.0) (λ v. list_typing t (map T (map (λ y. y.0) es))) r p.2 in
      (x.1 p.0 p.1, list_follows t r es q.2)

  agreed_follows : (sofar : Answer ExprType) (r : ExprType) (es : List Known) → agreed sofar (map T (map (λ e. e.0) es)) ≡ Ok r → EachFollows (map M (map (λ e. e.0) es)) (map M' (map (λ e. e.0) es))
  agreed_follows sofar r [] e = tt
  agreed_follows sofar r (x ∷ es) e =
      let p = then_ok (T x.0) (λ t. agreed (agree sofar t) (map T (map (λ y. y.0) es))) r e in
      (x.1 p.0 p.1, agreed_follows (agree sofar p.0) r es p.2)

  arms_follow : (sofar : Answer ExprType) (r : ExprType) (other : Answer ExprType) (arms : List KnownArm) → arms_typing sofar (map (arm_type_at ts) (map (λ a. a.0) arms)) other ≡ Ok r →
      EachArmFollows (map (arm_at s picks cell) (map (λ a. a.0) arms)) (map (arm_at s' picks cell) (map (λ a. a.0) arms)) × ((t : ExprType) × (other ≡ Ok t))
  arms_follow sofar r other [] e = let p = then_ok other (λ t. agreed (agree sofar t) []) r e in (tt, (p.0, p.1))
  arms_follow sofar r other (a ∷ arms) e =
      let rest = λ (t : ExprType). arms_typing (agree sofar t) (map (arm_type_at ts) (map (λ b. b.0) arms)) other in
      let c = then_ok (T (out-Arm a.0).condition) (λ c. and_then (where_bool (Of kind.Bool) c) (λ v. and_then (T (out-Arm a.0).answer) rest)) r e in
      let d = then_ok (where_bool (Of kind.Bool) c.0) (λ v. and_then (T (out-Arm a.0).answer) rest) r c.2 in
      let q = then_ok (T (out-Arm a.0).answer) rest r d.2 in
      let later = arms_follow (agree sofar q.0) r other arms q.2 in
      (((a.1.0 c.0 c.1, a.1.1 q.0 q.1), later.0), later.1)

  -- ---- a form, from the laws of its parts

  form_follows : (y : Expr-F Known KnownArm) → Law (roll-Expr (map-Expr Known KnownArm Expr Arm (λ e. e.0) (λ a. a.0) y))
  form_follows (Expr-F.Literal w) =
      subst Law (sym (rolls-Literal w)) (λ t e. rw (M-Literal s picks cell w, M-Literal s' picks cell w) (give_follows (Ok w)))
  form_follows (Expr-F.Column q name) =
      subst Law (sym (rolls-Column q name)) (λ t e. rw (M-Column s picks cell q name, M-Column s' picks cell q name) (λ v k. refl))
  form_follows (Expr-F.Unary op x) =
      subst Law (sym (rolls-Unary op x.0)) (λ t e.
      let p = then_ok (T x.0) (unary_type op) t (sym (T-Unary ts op x.0) ∙ e) in
      rw (M-Unary s picks cell op x.0, M-Unary s' picks cell op x.0) (then_follows (M x.0) (M' x.0) _ _ (x.1 p.0 p.1) (λ v. give_follows (unary_of op v))))
  form_follows (Expr-F.Binary op x y) =
      subst Law (sym (rolls-Binary op x.0 y.0)) (λ t e.
      let p = then_ok (T x.0) (λ t. and_then (left_type op t) (λ v. and_then (T y.0) (λ u. binary_type op t u))) t (sym (T-Binary ts op x.0 y.0) ∙ e) in
      let q = then_ok (left_type op p.0) (λ v. and_then (T y.0) (λ u. binary_type op p.0 u)) t p.2 in
      let r = then_ok (T y.0) (λ u. binary_type op p.0 u) t q.2 in
      rw (M-Binary s picks cell op x.0 y.0, M-Binary s' picks cell op x.0 y.0)
      (applied_R (Seen Value) (Seen Value) seen_then seen_then unmarked unmarked Follows then_follows give_follows op (M x.0) (M y.0) (M' x.0) (M' y.0) (x.1 p.0 p.1) (y.1 r.0 r.1)))
  form_follows (Expr-F.IsNull x negate) =
      subst Law (sym (rolls-IsNull x.0 negate)) (λ t e.
      let p = then_ok (T x.0) (λ t. fine (Of kind.Bool)) t (sym (T-IsNull ts x.0 negate) ∙ e) in
      rw (M-IsNull s picks cell x.0 negate, M-IsNull s' picks cell x.0 negate) (then_follows (M x.0) (M' x.0) _ _ (x.1 p.0 p.1) (λ v. give_follows (Ok (null_test negate v)))))
  form_follows (Expr-F.Like x y negate) =
      subst Law (sym (rolls-Like x.0 y.0 negate)) (λ t e.
      let p = then_ok (T x.0) (λ t. and_then (T y.0) (λ u. like_type t u)) t (sym (T-Like ts x.0 y.0 negate) ∙ e) in
      let q = then_ok (T y.0) (λ u. like_type p.0 u) t p.2 in
      rw (M-Like s picks cell x.0 y.0 negate, M-Like s' picks cell x.0 y.0 negate)
      (like_of_R (Seen Value) (Seen Value) seen_then seen_then unmarked unmarked Follows then_follows give_follows (M x.0) (M y.0) (M' x.0) (M' y.0) negate (x.1 p.0 p.1) (y.1 q.0 q.1)))
  form_follows (Expr-F.OneOf x list negate) =
      subst Law (sym (rolls-OneOf x.0 (map (λ e. e.0) list) negate)) (λ t e.
      let p = then_ok (T x.0) (λ t. list_typing t (map T (map (λ e. e.0) list))) t (sym (T-OneOf ts x.0 (map (λ e. e.0) list) negate) ∙ e) in
      rw (M-OneOf s picks cell x.0 (map (λ e. e.0) list) negate, M-OneOf s' picks cell x.0 (map (λ e. e.0) list) negate)
      (one_of_R (Seen Value) (Seen Value) seen_then seen_then unmarked unmarked Follows then_follows give_follows (M x.0) (M' x.0) (map M (map (λ e. e.0) list)) (map M' (map (λ e. e.0) list)) negate
      (x.1 p.0 p.1) (list_follows p.0 t list p.2)))
  form_follows (Expr-F.Case arms None) =
      subst Law (sym (rolls-Case (map (λ a. a.0) arms) None)) (λ t e.
      let p = arms_follow (Ok Unknown) t (Ok Unknown) arms (sym (T-Case ts (map (λ a. a.0) arms) None) ∙ e) in
      rw (M-Case s picks cell (map (λ a. a.0) arms) None, M-Case s' picks cell (map (λ a. a.0) arms) None)
      (first_arm_R (Seen Value) (Seen Value) seen_then seen_then unmarked unmarked Follows then_follows give_follows _ _ _ _ p.0 (give_follows (Ok Null))))
  form_follows (Expr-F.Case arms (Some x)) =
      subst Law (sym (rolls-Case (map (λ a. a.0) arms) (Some x.0))) (λ t e.
      let p = arms_follow (Ok Unknown) t (T x.0) arms (sym (T-Case ts (map (λ a. a.0) arms) (Some x.0)) ∙ e) in
      rw (M-Case s picks cell (map (λ a. a.0) arms) (Some x.0), M-Case s' picks cell (map (λ a. a.0) arms) (Some x.0))
      (first_arm_R (Seen Value) (Seen Value) seen_then seen_then unmarked unmarked Follows then_follows give_follows _ _ _ _ p.0 (x.1 p.1.0 p.1.1)))
  form_follows (Expr-F.Coalesce list) =
      subst Law (sym (rolls-Coalesce (map (λ e. e.0) list))) (λ t e.
      rw (M-Coalesce s picks cell (map (λ e. e.0) list), M-Coalesce s' picks cell (map (λ e. e.0) list))
      (first_value_R (Seen Value) (Seen Value) seen_then seen_then unmarked unmarked Follows then_follows give_follows _ _ (agreed_follows (Ok Unknown) t list (sym (T-Coalesce ts (map (λ e. e.0) list)) ∙ e))))
  form_follows (Expr-F.Cast x k) =
      subst Law (sym (rolls-Cast x.0 k)) (λ t e.
      let p = then_ok (T x.0) (cast_type k) t (sym (T-Cast ts x.0 k) ∙ e) in
      rw (M-Cast s picks cell x.0 k, M-Cast s' picks cell x.0 k) (then_follows (M x.0) (M' x.0) _ _ (x.1 p.0 p.1) (λ v. give_follows (cast k v))))
  form_follows (Expr-F.Caveat x message call) =
      subst Law (sym (rolls-Caveat x.0 message call)) (λ t e.
      rw (M-Caveat s picks cell x.0 message call, M-Caveat s' picks cell x.0 message call)
      (then_follows (M x.0) (M' x.0) _ _ (x.1 t (sym (T-Caveat ts x.0 message call) ∙ e)) (λ v w k. refl)))
  form_follows Expr-F.CountAll = subst Law (sym rolls-CountAll) (λ t e. rw (M-CountAll s picks cell, M-CountAll s' picks cell) count_follows)
  form_follows (Expr-F.Count x) =
      subst Law (sym (rolls-Count x.0)) (λ t e. rw (M-Count s picks cell x.0, M-Count s' picks cell x.0) (over_follows aggregate.Count x.0 t (sym (T-Count ts x.0) ∙ e)))
  form_follows (Expr-F.Sum x) =
      subst Law (sym (rolls-Sum x.0)) (λ t e. rw (M-Sum s picks cell x.0, M-Sum s' picks cell x.0) (over_follows aggregate.Sum x.0 t (sym (T-Sum ts x.0) ∙ e)))
  form_follows (Expr-F.Min x) =
      subst Law (sym (rolls-Min x.0)) (λ t e. rw (M-Min s picks cell x.0, M-Min s' picks cell x.0) (over_follows aggregate.Min x.0 t (sym (T-Min ts x.0) ∙ e)))
  form_follows (Expr-F.Max x) =
      subst Law (sym (rolls-Max x.0)) (λ t e. rw (M-Max s picks cell x.0, M-Max s' picks cell x.0) (over_follows aggregate.Max x.0 t (sym (T-Max ts x.0) ∙ e)))

  -- an expression that is typed
  pub meaning_follows : (e : Expr) → Law e
  meaning_follows = ind-Expr Law ArmLaw
      (λ x y is. subst (λ z. Law (roll-Expr z)) is (form_follows y))
      (λ x y is. rw (out-roll-Arm x) (subst (λ z. Law z.condition × Law z.answer) is (y.condition.1, y.answer.1)))
