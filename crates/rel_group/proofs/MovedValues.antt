-- Aggregates of values of one type don't depend on their order.
use Rattle.std.proofs.Common.{◌≡◌, ℤ, pos, Bool, true, false, not, Ok, Err, List, [], ◌∷◌, cond, refl, ap, ◌∙◌, sym}
use Rattle.std.specs.Prelude.{IsTrue, ◌+ℤ◌}
use Rattle.std.proofs.Math.IntN.{+ℤ_comm, +ℤ_assoc}
use Rattle.std.specs.declared.cmp.Ordering.{Ordering}
use Rattle.std.specs.declared.cmp.Ordering.TheVariants.{Less, Equal, Greater}
use Rattle.std.specs.Ordering.{is_lt, ordering_reverse}
use Rattle.value_types.specs.declared.value.Value.{Value}
use Rattle.value_types.specs.declared.value.Value.TheVariants.{Null, Bool as Truth, Int, Fixed, Text}
use Rattle.value_types.specs.declared.value.ColumnType.{ColumnType}
use Rattle.value_types.specs.declared.value.ColumnType.TheVariants as kind
use Rattle.value_types.specs.Order.{value_cmp}
use Rattle.value_types.proofs.Orders.{value_cmp_total}
use Rattle.cell_errors.specs.Answers.{Answer}
use Rattle.cell_errors.specs.declared.fault.CellError.TheVariants as error
use Rattle.dataset_types.specs.Tables.{fits}
use Rattle.expr_ops.specs.declared.aggregates.Aggregate.{Aggregate}
use Rattle.expr_ops.specs.declared.aggregates.Aggregate.TheVariants as aggregate
use Rattle.expr_ops.specs.Truths.{is_null}
use Rattle.expr_ops.specs.Arithmetic.{in_range, an_int, a_fixed}
use Rattle.expr_ops.specs.Aggregates.{not_null, count_in, total, sum_as, sum_of, first_if, least_from, greatest_from, least_of, greatest_of, aggregate_of}
use Rattle.expr_meaning.specs.declared.expr_type.ExprType.{ExprType}
use Rattle.expr_meaning.specs.declared.expr_type.ExprType.TheVariants.{Null as Unknown, Of}
use Rattle.relations.specs.Typed.{is_of}
use Rattle.relations.proofs.Gathered.{Each}
use Rattle.rel_group.proofs.KeyOrder.{value_exact}
use Rattle.rel_group.proofs.Moved.{Moved, stays, more, swaps, follows, moved_filter, moved_length}

-- ---- the first by an order

module _ (lt : Value → Value → Bool) (trans : (a b c : Value) → lt a b ≡ true → lt b c ≡ true → lt a c ≡ true) (one_way : (a b : Value) → lt a b ≡ true → lt b a ≡ false)
    (exact : (a b : Value) → lt a b ≡ false → lt b a ≡ false → a ≡ b) where
  abbrev first : Value → Value → Value
  first a b = first_if (lt a b) a b

  wrong : true ≡ false → ⊥
  wrong z = cc

  first_turn : (a b : Value) → first a b ≡ first b a
  first_turn a b = at (lt a b) (lt b a) refl refl
    where
      at : (p q : Bool) → lt a b ≡ p → lt b a ≡ q → first_if p a b ≡ first_if q b a
      at true true e k = absurd (wrong (sym k ∙ one_way a b e))
      at true false e k = refl
      at false true e k = refl
      at false false e k = sym (exact a b e k)

  not_true : (b : Bool) → (b ≡ true → ⊥) → b ≡ false
  not_true true h = absurd (h refl)
  not_true false h = refl

  first_swap : (x y v : Value) → first y (first x v) ≡ first x (first y v)
  first_swap x y v = at (lt x v) (lt y v) refl refl
    where
      at : (p q : Bool) → lt x v ≡ p → lt y v ≡ q → first y (first_if p x v) ≡ first x (first_if q y v)
      at true true e k = first_turn y x
      at true false e k = ap (λ b. first_if b y x) (not_true (lt y x) (λ h. wrong (sym (trans y x v h e) ∙ k))) ∙ sym (ap (λ b. first_if b x v) e)
      at false true e k = ap (λ b. first_if b y v) k ∙ sym (ap (λ b. first_if b x y) (not_true (lt x y) (λ h. wrong (sym (trans x y v h k) ∙ e))))
      at false false e k = ap (λ b. first_if b y v) k ∙ sym (ap (λ b. first_if b x v) e)

  abbrev from : Value → List Value → Value
  from v [] = v
  from v (w ∷ ws) = from (first w v) ws

  abbrev first_of : List Value → Value
  first_of [] = Null
  first_of (v ∷ vs) = from v vs

  from_moved : (xs ys : List Value) → Moved xs ys → (v : Value) → from v xs ≡ from v ys
  from_moved _ _ (stays xs) v = refl
  from_moved _ _ (more x xs ys m) v = from_moved xs ys m (first x v)
  from_moved _ _ (swaps x y xs) v = ap (λ z. from z xs) (first_swap x y v)
  from_moved _ _ (follows xs ys zs m n) v = from_moved xs ys m v ∙ from_moved ys zs n v

  first_moved : (xs ys : List Value) → Moved xs ys → first_of xs ≡ first_of ys
  first_moved _ _ (stays xs) = refl
  first_moved _ _ (more x xs ys m) = from_moved xs ys m x
  first_moved _ _ (swaps x y xs) = ap (λ z. from z xs) (first_turn y x)
  first_moved _ _ (follows xs ys zs m n) = first_moved xs ys m ∙ first_moved ys zs n

-- ---- the least, and the greatest

abbrev below : Value → Value → Bool
below a b = is_lt (value_cmp a b)

abbrev beyond : Value → Value → Bool
beyond a b = is_lt (value_cmp b a)

less_is : (o : Ordering) → is_lt o ≡ true → o ≡ Less
less_is Less e = refl
less_is Equal e = cc
less_is Greater e = cc

equal_is : (o : Ordering) → is_lt o ≡ false → is_lt (ordering_reverse o) ≡ false → o ≡ Equal
equal_is Less e k = cc
equal_is Equal e k = refl
equal_is Greater e k = cc

below_trans : (a b c : Value) → below a b ≡ true → below b c ≡ true → below a c ≡ true
below_trans a b c e k = ap is_lt (value_cmp_total.trans a b c (less_is (value_cmp a b) e) (less_is (value_cmp b c) k))

below_one_way : (a b : Value) → below a b ≡ true → below b a ≡ false
below_one_way a b e = ap is_lt (value_cmp_total.antisymm b a ∙ ap ordering_reverse (less_is (value_cmp a b) e))

below_exact : (a b : Value) → below a b ≡ false → below b a ≡ false → a ≡ b
below_exact a b e k = value_exact a b (equal_is (value_cmp a b) e (sym (ap is_lt (value_cmp_total.antisymm b a)) ∙ k))

least_is : (v : Value) (ws : List Value) → least_from v ws ≡ from below below_trans below_one_way below_exact v ws
least_is v [] = refl
least_is v (w ∷ ws) = least_is (first_if (below w v) w v) ws

least_all : (vs : List Value) → least_of vs ≡ first_of below below_trans below_one_way below_exact vs
least_all [] = refl
least_all (v ∷ vs) = least_is v vs

pub least_moved : (vs ws : List Value) → Moved vs ws → least_of vs ≡ least_of ws
least_moved vs ws m = least_all vs ∙ (first_moved below below_trans below_one_way below_exact vs ws m ∙ sym (least_all ws))

beyond_trans : (a b c : Value) → beyond a b ≡ true → beyond b c ≡ true → beyond a c ≡ true
beyond_trans a b c e k = below_trans c b a k e

beyond_one_way : (a b : Value) → beyond a b ≡ true → beyond b a ≡ false
beyond_one_way a b e = below_one_way b a e

beyond_exact : (a b : Value) → beyond a b ≡ false → beyond b a ≡ false → a ≡ b
beyond_exact a b e k = below_exact a b k e

greatest_is : (v : Value) (ws : List Value) → greatest_from v ws ≡ from beyond beyond_trans beyond_one_way beyond_exact v ws
greatest_is v [] = refl
greatest_is v (w ∷ ws) = greatest_is (first_if (beyond w v) w v) ws

greatest_all : (vs : List Value) → greatest_of vs ≡ first_of beyond beyond_trans beyond_one_way beyond_exact vs
greatest_all [] = refl
greatest_all (v ∷ vs) = greatest_is v vs

pub greatest_moved : (vs ws : List Value) → Moved vs ws → greatest_of vs ≡ greatest_of ws
greatest_moved vs ws m = greatest_all vs ∙ (first_moved beyond beyond_trans beyond_one_way beyond_exact vs ws m ∙ sym (greatest_all ws))

-- ---- sums

total_moved : (vs ws : List Value) → Moved vs ws → total vs ≡ total ws
total_moved _ _ (stays xs) = refl
total_moved _ _ (more x xs ys m) = ap (λ n. count_in x +ℤ n) (total_moved xs ys m)
total_moved _ _ (swaps x y xs) =
    sym (+ℤ_assoc (count_in x) (count_in y) (total xs)) ∙ (ap (λ n. n +ℤ total xs) (+ℤ_comm (count_in x) (count_in y)) ∙ +ℤ_assoc (count_in y) (count_in x) (total xs))
total_moved _ _ (follows xs ys zs m n) = total_moved xs ys m ∙ total_moved ys zs n

-- a sum in a type
abbrev sum_kind : ColumnType → ℤ → Answer Value
sum_kind kind.Bool n = Err error.TypeFault
sum_kind kind.Int n = an_int (in_range n)
sum_kind kind.Fixed n = a_fixed (in_range n)
sum_kind kind.Text n = Err error.TypeFault

abbrev sum_form : ColumnType → List Value → Answer Value
sum_form k [] = Ok Null
sum_form k (v ∷ vs) = sum_kind k (total (v ∷ vs))

form_moved : (k : ColumnType) (vs ws : List Value) → Moved vs ws → sum_form k vs ≡ sum_form k ws
form_moved k _ _ (stays xs) = refl
form_moved k _ _ (more x xs ys m) = ap (λ n. sum_kind k (count_in x +ℤ n)) (total_moved xs ys m)
form_moved k _ _ (swaps x y xs) = ap (sum_kind k) (total_moved (x ∷ y ∷ xs) (y ∷ x ∷ xs) (swaps x y xs))
form_moved k _ _ (follows xs ys zs m n) = form_moved k xs ys m ∙ form_moved k ys zs n

-- a value of a type that isn't NULL
abbrev IsExactly : ColumnType → Value → Type 0
IsExactly k v = IsTrue (fits v k) × (is_null v ≡ false)

sum_is : (k : ColumnType) (v : Value) (n : ℤ) → IsExactly k v → sum_as v n ≡ sum_kind k n
sum_is k Null n e = absurd (never e.1)
  where
    never : true ≡ false → ⊥
    never z = cc
sum_is kind.Bool (Truth b) n e = refl
sum_is kind.Int (Truth b) n e = let z = e.0 in cc
sum_is kind.Fixed (Truth b) n e = let z = e.0 in cc
sum_is kind.Text (Truth b) n e = let z = e.0 in cc
sum_is kind.Bool (Int m) n e = let z = e.0 in cc
sum_is kind.Int (Int m) n e = refl
sum_is kind.Fixed (Int m) n e = let z = e.0 in cc
sum_is kind.Text (Int m) n e = let z = e.0 in cc
sum_is kind.Bool (Fixed m) n e = let z = e.0 in cc
sum_is kind.Int (Fixed m) n e = let z = e.0 in cc
sum_is kind.Fixed (Fixed m) n e = refl
sum_is kind.Text (Fixed m) n e = let z = e.0 in cc
sum_is kind.Bool (Text t) n e = let z = e.0 in cc
sum_is kind.Int (Text t) n e = let z = e.0 in cc
sum_is kind.Fixed (Text t) n e = let z = e.0 in cc
sum_is kind.Text (Text t) n e = refl

sum_typed : (k : ColumnType) (vs : List Value) → Each (IsExactly k) vs → sum_of vs ≡ sum_form k vs
sum_typed k [] e = refl
sum_typed k (v ∷ vs) e = sum_is k v (total (v ∷ vs)) e.0

exactly : (k : ColumnType) (vs : List Value) → Each (λ v. IsTrue (fits v k)) vs → Each (IsExactly k) (not_null vs)
exactly k [] e = tt
exactly k (v ∷ vs) e = on (is_null v) refl (exactly k vs e.1)
  where
    on : (b : Bool) → is_null v ≡ b → Each (IsExactly k) (not_null vs) → Each (IsExactly k) (cond (not b) (v ∷ not_null vs) (not_null vs))
    on true h rest = rest
    on false h rest = ((e.0, h), rest)

all_null : (vs : List Value) → Each (λ v. IsTrue (is_null v)) vs → not_null vs ≡ []
all_null [] e = refl
all_null (v ∷ vs) e = ap (λ b. cond (not b) (v ∷ not_null vs) (not_null vs)) e.0 ∙ all_null vs e.1

sum_moved : (k : ColumnType) (vs ws : List Value) → Moved vs ws → Each (IsExactly k) vs → Each (IsExactly k) ws → sum_of vs ≡ sum_of ws
sum_moved k vs ws m e h = sum_typed k vs e ∙ (form_moved k vs ws m ∙ sym (sum_typed k ws h))

pub aggregate_moved : (op : Aggregate) (t : ExprType) (vs ws : List Value) → Moved vs ws → Each (λ v. IsTrue (is_of v t)) vs → Each (λ v. IsTrue (is_of v t)) ws → aggregate_of op vs ≡ aggregate_of op ws
aggregate_moved aggregate.Count t vs ws m e h = ap (λ n. Ok (Int (pos n))) (moved_length (not_null vs) (not_null ws) (moved_filter (λ v. not (is_null v)) vs ws m))
aggregate_moved aggregate.Min t vs ws m e h = ap (λ v. Ok v) (least_moved (not_null vs) (not_null ws) (moved_filter (λ v. not (is_null v)) vs ws m))
aggregate_moved aggregate.Max t vs ws m e h = ap (λ v. Ok v) (greatest_moved (not_null vs) (not_null ws) (moved_filter (λ v. not (is_null v)) vs ws m))
aggregate_moved aggregate.Sum Unknown vs ws m e h = ap sum_of (all_null vs e ∙ sym (all_null ws h))
aggregate_moved aggregate.Sum (Of k) vs ws m e h = sum_moved k (not_null vs) (not_null ws) (moved_filter (λ v. not (is_null v)) vs ws m) (exactly k vs e) (exactly k ws h)
