-- What each form gives is of the form's type, where what its parts give is of theirs.
use Rattle.std.proofs.Common.{◌≡◌, ℕ, ℤ, pos, cond, not, length, Bool, true, false, Option, Some, None, Ok, Err, List, [], ◌∷◌, ◌++◌, map, refl, subst, ap, sym, ◌∙◌, inl, inr, arith}
use Rattle.std.specs.Prelude.{if◌then◌else◌}
use Rattle.std.specs.Bool.{⊤}
use Rattle.std.specs.List.{Contains}
use Rattle.std.specs.Ordering.{is_lt}
use Rattle.std.proofs.lemmas.List.Elements.{Contains-append_right}
use Rattle.value_types.specs.Order.{value_cmp}
use Rattle.value_types.specs.declared.value.ColumnType.TheVariants as kind
use Rattle.value_types.specs.declared.value.Value.{Value}
use Rattle.value_types.specs.declared.value.Value.TheVariants.{Null, Bool as Truth, Int, Fixed, Text}
use Rattle.dataset_types.specs.declared.picks.Pick.{Pick}
use Rattle.dataset_types.specs.declared.picks.Choice.{Choice}
use Rattle.dataset_types.specs.declared.picks.Choice.TheVariants as choice
use Rattle.cell_errors.specs.Answers.{Answer, and_then}
use Rattle.cell_errors.specs.Seen.{Seen, go_on, seen_then, unmarked}
use Rattle.expr_lang.specs.declared.ops.BinaryOp.{BinaryOp}
use Rattle.expr_lang.specs.declared.ops.BinaryOp.TheVariants as binary
use Rattle.expr_ops.specs.declared.aggregates.Aggregate.{Aggregate}
use Rattle.expr_ops.specs.declared.aggregates.Aggregate.TheVariants as aggregate
use Rattle.expr_ops.specs.Truths.{is_null, is_true, negated_if}
use Rattle.expr_ops.specs.Compare.{equal}
use Rattle.expr_ops.specs.Texts.{like}
use Rattle.expr_ops.specs.Ops.{decided, binary_of}
use Rattle.expr_meaning.specs.declared.bindings.Binding.{Binding}
use Rattle.expr_meaning.specs.declared.bindings.ScopeColumn.{ScopeColumn}
use Rattle.expr_meaning.specs.declared.expr_type.ExprType.{ExprType}
use Rattle.expr_meaning.specs.declared.expr_type.ExprType.TheVariants.{Of}
use Rattle.expr_meaning.specs.Picked.{may_stand, replaced, picked}
use Rattle.expr_meaning.specs.Forms.{unless, choose, applied, any_equal, one_of, like_of, first_arm, first_value, all_then}
use Rattle.expr_meaning.specs.Meaning.{seen_of, caveat_marked}
use Rattle.expr_meaning.specs.Types.{where_bool, where_text, number_type, left_type, binary_type, comparison_type, like_type, aggregate_type, common, binary_typing, like_typing, list_typing, agree, agreed, arms_typing}
use Rattle.expr_meaning.proofs.Alike.{Each, Both}
use Rattle.relations.proofs.Gathered.{the_same, then_ok}
use Rattle.relations.proofs.TypedOps.{Is, null_is, exactly, where_text_is, common_is, negate_is, compared_is, decided_is, binary_is, like_is, int_is, fixed_is}
use Rattle.expr_ops.specs.Arithmetic.{in_range}
use Rattle.expr_ops.specs.Aggregates.{not_null, total, sum_as, first_if, least_from, greatest_from, of_not_null}

-- what a part gives is of the part's type
abbrev pub Sound : Seen Value → Answer ExprType → Type 0
Sound x tx = (t : ExprType) (v : Value) → tx ≡ Ok t → x.answer ≡ Ok v → Is v t

-- a look at a part and at what follows, without error
pub seen_ok : (x : Seen Value) (f : Value → Seen Value) (v : Value) → (seen_then x f).answer ≡ Ok v → (a : Value) × (x.answer ≡ Ok a) × ((f a).answer ≡ Ok v)
seen_ok x f v e = at x.answer e
  where
    at : (o : Answer Value) → (go_on x.marked o f).answer ≡ Ok v → (a : Value) × (o ≡ Ok a) × ((f a).answer ≡ Ok v)
    at (Ok a) k = (a, refl, k)
    at (Err d) k = cc

pub sound_then : (x : Seen Value) (tx : Answer ExprType) (f : Value → Answer Value) (g : ExprType → Answer ExprType) → Sound x tx →
    ((t r : ExprType) (a v : Value) → Is a t → g t ≡ Ok r → f a ≡ Ok v → Is v r) → Sound (seen_then x (λ v. unmarked (f v))) (and_then tx g)
sound_then x tx f g s h r v e k =
    let p = then_ok tx g r e in
    let q = seen_ok x (λ w. unmarked (f w)) v k in
    h p.0 r q.0 v (s p.0 q.0 p.1 q.1) p.2 q.2

-- ---- operators

pub applied_is : (op : BinaryOp) (x y : Seen Value) (tx ty : Answer ExprType) → Sound x tx → Sound y ty → Sound (applied (Seen Value) seen_then unmarked op x y) (binary_typing op tx ty)
applied_is op x y tx ty sx sy r v e k =
    let p = then_ok tx (λ t. and_then (left_type op t) (λ l. and_then ty (λ u. binary_type op t u))) r e in
    let l = then_ok (left_type op p.0) (λ l. and_then ty (λ u. binary_type op p.0 u)) r p.2 in
    let u = then_ok ty (λ u. binary_type op p.0 u) r l.2 in
    let q = seen_ok x (λ a. unless (Seen Value) seen_then unmarked (decided op a) (seen_then y (λ w. unmarked (binary_of op a w)))) v k in
    at p.0 u.0 q.0 (decided op q.0) refl u.2 (sx p.0 q.0 p.1 q.1) (λ w h. sy u.0 w u.1 h) q.2
  where
    at : (t u : ExprType) (a : Value) (d : Answer (Option Value)) → decided op a ≡ d → binary_type op t u ≡ Ok r → Is a t → ((w : Value) → y.answer ≡ Ok w → Is w u) →
        (unless (Seen Value) seen_then unmarked d (seen_then y (λ w. unmarked (binary_of op a w)))).answer ≡ Ok v → Is v r
    at t u a (Ok (Some w)) e' b i s k' = decided_is op t u r a v b (e' ∙ ap (λ z. Ok (Some z)) (the_same w v k'))
    at t u a (Ok None) e' b i s k' = let q = seen_ok y (λ w. unmarked (binary_of op a w)) v k' in binary_is op t u r a q.0 v i (s q.0 q.1) b q.2
    at t u a (Err d) e' b i s k' = cc

pub like_of_is : (x y : Seen Value) (negate : Bool) (tx ty : Answer ExprType) → Sound (like_of (Seen Value) seen_then unmarked x y negate) (like_typing tx ty)
like_of_is x y negate tx ty r v e k =
    let p = then_ok tx (λ t. and_then ty (λ u. like_type t u)) r e in
    let u = then_ok ty (λ u. like_type p.0 u) r p.2 in
    let l = then_ok (where_text (Of kind.Bool) p.0) (λ t. where_text (Of kind.Bool) u.0) r u.2 in
    let q = seen_ok x (λ a. seen_then y (λ w. unmarked (and_then (like a w) (negated_if negate)))) v k in
    let s = seen_ok y (λ w. unmarked (and_then (like q.0 w) (negated_if negate))) v q.2 in
    let n = then_ok (like q.0 s.0) (negated_if negate) v s.2 in
    subst (Is v) (sym (where_text_is (Of kind.Bool) u.0 r l.2)) (negate_is negate n.0 v (like_is q.0 s.0 n.0 n.1) n.2)

-- ---- IN

abbrev IsTruth : Seen Value → Type 0
IsTruth x = (v : Value) → x.answer ≡ Ok v → Is v (Of kind.Bool)

or_is_truth : (x y : Seen Value) → IsTruth x → IsTruth y → IsTruth (applied (Seen Value) seen_then unmarked binary.Or x y)
or_is_truth x y i j v k = applied_is binary.Or x y (Ok (Of kind.Bool)) (Ok (Of kind.Bool))
    (λ t w e h. subst (Is w) (the_same (Of kind.Bool) t e) (i w h)) (λ t w e h. subst (Is w) (the_same (Of kind.Bool) t e) (j w h)) (Of kind.Bool) v refl k

equal_is_truth : (v : Value) (y : Seen Value) → IsTruth (seen_then y (λ w. unmarked (equal v w)))
equal_is_truth v y w k = let q = seen_ok y (λ z. unmarked (equal v z)) w k in compared_is _ v q.0 w q.2

any_is_truth : (v : Value) (ys : List (Seen Value)) (sofar : Seen Value) → IsTruth sofar → IsTruth (any_equal (Seen Value) seen_then unmarked sofar v ys)
any_is_truth v [] sofar i = i
any_is_truth v (y ∷ ys) sofar i = any_is_truth v ys _ (or_is_truth sofar _ i (equal_is_truth v y))

list_is : (t : ExprType) (ts : List (Answer ExprType)) (r : ExprType) → list_typing t ts ≡ Ok r → r ≡ Of kind.Bool
list_is t [] r e = sym (the_same (Of kind.Bool) r e)
list_is t (y ∷ ys) r e =
    let p = then_ok y (λ u. and_then (comparison_type t u) (λ v. list_typing t ys)) r e in
    let q = then_ok (comparison_type t p.0) (λ v. list_typing t ys) r p.2 in
    list_is t ys r q.2

pub one_of_is : (x : Seen Value) (xs : List (Seen Value)) (negate : Bool) (tx : Answer ExprType) (ts : List (Answer ExprType)) →
    Sound (one_of (Seen Value) seen_then unmarked x xs negate) (and_then tx (λ t. list_typing t ts))
one_of_is x xs negate tx ts r v e k =
    let p = then_ok tx (λ t. list_typing t ts) r e in
    let q = seen_ok x (λ a. seen_then (any_equal (Seen Value) seen_then unmarked (unmarked (Ok (Truth false))) a xs) (λ t. unmarked (negated_if negate t))) v k in
    let s = seen_ok (any_equal (Seen Value) seen_then unmarked (unmarked (Ok (Truth false))) q.0 xs) (λ t. unmarked (negated_if negate t)) v q.2 in
    subst (Is v) (sym (list_is p.0 ts r p.2)) (negate_is negate s.0 v (any_is_truth q.0 xs _ (λ w h. exactly (Truth false) w h) s.0 s.1) s.2)

-- ---- branches

-- pair by pair
abbrev pub EachSound : List (Seen Value) → List (Answer ExprType) → Type 0
EachSound [] [] = ⊤
EachSound (x ∷ xs) (t ∷ ts) = Sound x t × EachSound xs ts
EachSound _ _ = ⊥

abbrev pub EachArmSound : List (Seen Value × Seen Value) → List (Answer ExprType × Answer ExprType) → Type 0
EachArmSound [] [] = ⊤
EachArmSound (x ∷ xs) (t ∷ ts) = Sound x.1 t.1 × EachArmSound xs ts
EachArmSound _ _ = ⊥

-- what is of the type so far is of the type of all
record Grows (sofar : Answer ExprType) (r : ExprType) : Type 0 where
  from : ExprType
  is : sofar ≡ Ok from
  keeps : (v : Value) → Is v from → Is v r

agree_is : (sofar : Answer ExprType) (t r : ExprType) → Grows (agree sofar t) r → Grows sofar r × ((v : Value) → Is v t → Is v r)
agree_is sofar t r g =
    let p = then_ok sofar (λ s. common s t) g.from g.is in (
      record { from = p.0; is = p.1; keeps = λ v i. g.keeps v ((common_is v p.0 t g.from p.2).0 i) },
      λ v i. g.keeps v ((common_is v p.0 t g.from p.2).1 i),
    )

agreed_is : (sofar : Answer ExprType) (ts : List (Answer ExprType)) (r : ExprType) → agreed sofar ts ≡ Ok r → Grows sofar r
agreed_is sofar [] r e = record { from = r; is = e; keeps = λ v i. i }
agreed_is sofar (x ∷ xs) r e =
    let p = then_ok x (λ t. agreed (agree sofar t) xs) r e in
    (agree_is sofar p.0 r (agreed_is (agree sofar p.0) xs r p.2)).0

pub first_value_is : (xs : List (Seen Value)) (ts : List (Answer ExprType)) (sofar : Answer ExprType) → EachSound xs ts →
    Sound (first_value (Seen Value) seen_then unmarked xs) (agreed sofar ts)
first_value_is [] [] sofar s r v e k = null_is v r k
first_value_is [] (t ∷ ts) sofar s r v e k = absurd s
first_value_is (x ∷ xs) [] sofar s r v e k = absurd s
first_value_is (x ∷ xs) (tx ∷ ts) sofar s r v e k =
    let p = then_ok tx (λ t. agreed (agree sofar t) ts) r e in
    let q = seen_ok x (λ a. choose (Seen Value) seen_then unmarked (Ok (is_null a)) (first_value (Seen Value) seen_then unmarked xs) (unmarked (Ok a))) v k in
    let g = agree_is sofar p.0 r (agreed_is (agree sofar p.0) ts r p.2) in
    at (is_null q.0) q.0 (g.1 q.0 (s.0 p.0 q.0 p.1 q.1)) (λ h. first_value_is xs ts (agree sofar p.0) s.1 r v p.2 h) q.2
  where
    at : (b : Bool) (a : Value) → Is a r → ((first_value (Seen Value) seen_then unmarked xs).answer ≡ Ok v → Is v r) →
        (choose (Seen Value) seen_then unmarked (Ok b) (first_value (Seen Value) seen_then unmarked xs) (unmarked (Ok a))).answer ≡ Ok v → Is v r
    at true a i rest h = rest h
    at false a i rest h = subst (λ z. Is z r) (the_same a v h) i

arms_grow : (sofar : Answer ExprType) (ts : List (Answer ExprType × Answer ExprType)) (other : Answer ExprType) (r : ExprType) → arms_typing sofar ts other ≡ Ok r → Grows sofar r
arms_grow sofar [] other r e = agreed_is sofar (other ∷ []) r e
arms_grow sofar (a ∷ arms) other r e =
    let c = then_ok a.0 (λ c. and_then (where_bool (Of kind.Bool) c) (λ v. and_then a.1 (λ t. arms_typing (agree sofar t) arms other))) r e in
    let b = then_ok (where_bool (Of kind.Bool) c.0) (λ v. and_then a.1 (λ t. arms_typing (agree sofar t) arms other)) r c.2 in
    let t = then_ok a.1 (λ t. arms_typing (agree sofar t) arms other) r b.2 in
    (agree_is sofar t.0 r (arms_grow (agree sofar t.0) arms other r t.2)).0

pub first_arm_is : (xs : List (Seen Value × Seen Value)) (ts : List (Answer ExprType × Answer ExprType)) (sofar : Answer ExprType) (x : Seen Value) (tx : Answer ExprType) →
    EachArmSound xs ts → Sound x tx → Sound (first_arm (Seen Value) seen_then unmarked xs x) (arms_typing sofar ts tx)
first_arm_is [] [] sofar x tx s o r v e k =
    let p = then_ok tx (λ t. agreed (agree sofar t) []) r e in
    let g = agree_is sofar p.0 r (record { from = r; is = p.2; keeps = λ w i. i }) in
    g.1 v (o p.0 v p.1 k)
first_arm_is [] (t ∷ ts) sofar x tx s o r v e k = absurd s
first_arm_is (a ∷ arms) [] sofar x tx s o r v e k = absurd s
first_arm_is (a ∷ arms) (t ∷ ts) sofar x tx s o r v e k =
    let c = then_ok t.0 (λ c. and_then (where_bool (Of kind.Bool) c) (λ v. and_then t.1 (λ u. arms_typing (agree sofar u) ts tx))) r e in
    let b = then_ok (where_bool (Of kind.Bool) c.0) (λ v. and_then t.1 (λ u. arms_typing (agree sofar u) ts tx)) r c.2 in
    let u = then_ok t.1 (λ u. arms_typing (agree sofar u) ts tx) r b.2 in
    let g = agree_is sofar u.0 r (arms_grow (agree sofar u.0) ts tx r u.2) in
    let q = seen_ok a.0 (λ w. choose (Seen Value) seen_then unmarked (is_true w) a.1 (first_arm (Seen Value) seen_then unmarked arms x)) v k in
    at (is_true q.0) (λ h. g.1 v (s.0 u.0 v u.1 h)) (λ h. first_arm_is arms ts (agree sofar u.0) x tx s.1 o r v u.2 h) q.2
  where
    at : (b : Answer Bool) → (a.1.answer ≡ Ok v → Is v r) → ((first_arm (Seen Value) seen_then unmarked arms x).answer ≡ Ok v → Is v r) →
        (choose (Seen Value) seen_then unmarked b a.1 (first_arm (Seen Value) seen_then unmarked arms x)).answer ≡ Ok v → Is v r
    at (Ok true) here rest h = here h
    at (Ok false) here rest h = rest h
    at (Err d) here rest h = cc

-- ---- CAVEAT

stands_is : (a p : Value) (t : ExprType) → Is a t → may_stand a p ≡ true → Is p t
stands_is Null p t i e = cc
stands_is (Truth x) Null t i e = inl refl
stands_is (Int x) Null t i e = inl refl
stands_is (Fixed x) Null t i e = inl refl
stands_is (Text x) Null t i e = inl refl
stands_is (Truth x) (Truth y) t i e = elim i [ inl n ↦ cc | inr n ↦ inr n ]
stands_is (Int x) (Int y) t i e = elim i [ inl n ↦ cc | inr n ↦ inr n ]
stands_is (Fixed x) (Fixed y) t i e = elim i [ inl n ↦ cc | inr n ↦ inr n ]
stands_is (Text x) (Text y) t i e = elim i [ inl n ↦ cc | inr n ↦ inr n ]
stands_is (Truth x) (Int y) t i e = cc
stands_is (Truth x) (Fixed y) t i e = cc
stands_is (Truth x) (Text y) t i e = cc
stands_is (Int x) (Truth y) t i e = cc
stands_is (Int x) (Fixed y) t i e = cc
stands_is (Int x) (Text y) t i e = cc
stands_is (Fixed x) (Truth y) t i e = cc
stands_is (Fixed x) (Int y) t i e = cc
stands_is (Fixed x) (Text y) t i e = cc
stands_is (Text x) (Truth y) t i e = cc
stands_is (Text x) (Int y) t i e = cc
stands_is (Text x) (Fixed y) t i e = cc

replaced_is : (a : Value) (c : Option Choice) (t : ExprType) → Is a t → Is (replaced a c) t
replaced_is a None t i = i
replaced_is a (Some (choice.Keep keep)) t i = i
replaced_is a (Some (choice.Value p)) t i = at (may_stand a p) refl
  where
    at : (b : Bool) → may_stand a p ≡ b → Is (if b then p else a) t
    at true e = stands_is a p t i e
    at false e = i

pub caveat_is : (picks : List Pick) (cell call : ℕ) (x : Seen Value) (tx : Answer ExprType) → Sound x tx → Sound (caveat_marked picks cell call x) tx
caveat_is picks cell call x tx s t v e k =
    let q = seen_ok x (λ a. record { marked = true; answer = Ok (picked picks cell call a) }) v k in
    subst (λ z. Is z t) (the_same (picked picks cell call q.0) v q.2) (replaced_is q.0 _ t (s t q.0 e q.1))

-- ---- names

-- a binding under a column, with a value of its type
abbrev pub IsBound : Binding → ScopeColumn → Type 0
IsBound b c = (b.qualifier ≡ c.qualifier) × (b.name ≡ c.column.name) × Is b.value.value (Of c.column.kind)

abbrev pub EachIsBound : List Binding → List ScopeColumn → Type 0
EachIsBound = Each Binding ScopeColumn (λ b. b.qualifier) (λ b. b.name) (λ c. c.qualifier) (λ c. c.column.name) IsBound (λ b c e. e.0) (λ b c e. e.1)

abbrev BothBound : Answer Binding → Answer ScopeColumn → Type 0
BothBound = Both Binding ScopeColumn (λ b. b.qualifier) (λ b. b.name) (λ c. c.qualifier) (λ c. c.column.name) IsBound (λ b c e. e.0) (λ b c e. e.1)

pub bound_is : (a : Answer Binding) (b : Answer ScopeColumn) → BothBound a b → Sound (seen_of a) (and_then b (λ c. Ok (Of c.column.kind)))
bound_is (Ok a) (Ok c) s t v e k = subst (Is v) (the_same (Of c.column.kind) t e) (subst (λ z. Is z (Of c.column.kind)) (the_same a.value.value v k) s.2)
bound_is (Err d) (Err f) s t v e k = cc
bound_is (Ok a) (Err f) s t v e k = absurd s
bound_is (Err d) (Ok c) s t v e k = absurd s

-- ---- aggregates

-- values of a type
abbrev pub EachIs : ExprType → List Value → Type 0
EachIs t [] = ⊤
EachIs t (v ∷ vs) = Is v t × EachIs t vs

each_push : (t : ExprType) (vs : List Value) (v : Value) → EachIs t vs → Is v t → EachIs t (vs ++ v ∷ [])
each_push t [] v e i = (i, tt)
each_push t (w ∷ ws) v e i = (e.0, each_push t ws v e.1 i)

pub each_not_null : (t : ExprType) (vs : List Value) → EachIs t vs → EachIs t (not_null vs)
each_not_null t [] e = tt
each_not_null t (v ∷ vs) e = at (is_null v) (each_not_null t vs e.1)
  where
    at : (b : Bool) → EachIs t (not_null vs) → EachIs t (cond (not b) (v ∷ not_null vs) (not_null vs))
    at true rest = rest
    at false rest = (e.0, rest)

one_is : (t : ExprType) (b : Bool) (w v : Value) → Is w t → Is v t → Is (first_if b w v) t
one_is t true w v i j = i
one_is t false w v i j = j

least_is : (t : ExprType) (v : Value) (vs : List Value) → Is v t → EachIs t vs → Is (least_from v vs) t
least_is t v [] i e = i
least_is t v (w ∷ ws) i e = least_is t (first_if (is_lt (value_cmp w v)) w v) ws (one_is t (is_lt (value_cmp w v)) w v e.0 i) e.1

greatest_is : (t : ExprType) (v : Value) (vs : List Value) → Is v t → EachIs t vs → Is (greatest_from v vs) t
greatest_is t v [] i e = i
greatest_is t v (w ∷ ws) i e = greatest_is t (first_if (is_lt (value_cmp v w)) w v) ws (one_is t (is_lt (value_cmp v w)) w v e.0 i) e.1

summed_is : (t r : ExprType) (w : Value) (n : ℤ) (v : Value) → Is w t → number_type t ≡ Ok r → sum_as w n ≡ Ok v → Is v r
summed_is t r Null n v i h e = cc
summed_is t r (Truth b) n v i h e = cc
summed_is t r (Text x) n v i h e = cc
summed_is t r (Int m) n v i h e = elim i [
  | inl k ↦ cc
  | inr k ↦ subst (Is v) (the_same (Of kind.Int) r (subst (λ z. number_type z ≡ Ok r) (sym k) h)) (int_is (in_range n) v e)
]
summed_is t r (Fixed m) n v i h e = elim i [
  | inl k ↦ cc
  | inr k ↦ subst (Is v) (the_same (Of kind.Fixed) r (subst (λ z. number_type z ≡ Ok r) (sym k) h)) (fixed_is (in_range n) v e)
]

pub not_null_is : (op : Aggregate) (t r : ExprType) (vs : List Value) (v : Value) → EachIs t vs → aggregate_type op t ≡ Ok r → of_not_null op vs ≡ Ok v → Is v r
not_null_is aggregate.Count t r vs v e h k = subst (Is v) (the_same (Of kind.Int) r h) (exactly (Int (pos (length vs))) v k)
not_null_is aggregate.Sum t r [] v e h k = null_is v r k
not_null_is aggregate.Sum t r (w ∷ ws) v e h k = summed_is t r w (total (w ∷ ws)) v e.0 h k
not_null_is aggregate.Min t r [] v e h k = null_is v r k
not_null_is aggregate.Min t r (w ∷ ws) v e h k = subst (Is v) (the_same t r h) (subst (λ z. Is z t) (the_same (least_from w ws) v k) (least_is t w ws e.0 e.1))
not_null_is aggregate.Max t r [] v e h k = null_is v r k
not_null_is aggregate.Max t r (w ∷ ws) v e h k = subst (Is v) (the_same t r h) (subst (λ z. Is z t) (the_same (greatest_from w ws) v k) (greatest_is t w ws e.0 e.1))

-- what is seen of an operand in each row, looked at one by one
pub all_are : {R : Type 0} (m : R → Seen Value) (t : ExprType) (rows : List R) → ((r : R) → Contains rows r → (v : Value) → (m r).answer ≡ Ok v → Is v t) → (done : List Value) → EachIs t done →
    (k : List Value → Answer Value) (v : Value) → (all_then (Seen Value) seen_then unmarked (map m rows) done k).answer ≡ Ok v → (vs : List Value) × EachIs t vs × (k vs ≡ Ok v)
all_are m t [] h done e k v is = (done, e, is)
all_are m t (r ∷ rs) h done e k v is =
    let q = seen_ok (m r) (λ w. all_then (Seen Value) seen_then unmarked (map m rs) (done ++ w ∷ []) k) v is in
    all_are m t rs (λ x c. h x (Contains-append_right (r ∷ []) rs x c)) (done ++ q.0 ∷ []) (each_push t done q.0 e (h r (0, omega arith, refl) q.0 q.1)) k v q.2
