-- The sort by insertion puts in order, keeps ties and only moves, and it leaves what is in order.
use Rattle.std.proofs.Common.{◌≡◌, ℕ, zero, suc, ◌+◌, ◌<◌, Bool, true, false, not, ◌||◌, List, [], ◌∷◌, length, get_or, refl, subst, sym, add-one, arith}
use Rattle.std.specs.Prelude.{◌↔◌, IsTrue}
use Rattle.std.specs.List.{list_any, IsAllAdjacentAnswer}
use Rattle.std.specs.List.Sorted.{IsSortedBy, IsPermutation}
use Rattle.std.specs.Cmp.{IsStrictWeakOrder}
use Rattle.std.proofs.lemmas.List.Sorted.{IsPermutation-refl, IsPermutation-cons, IsPermutation-swap, IsPermutation-trans}
use Rattle.dataset_types.specs.declared.row.Row.{Row}
use Rattle.relations.specs.declared.parts.SortKey.{SortKey}
use Rattle.relations.specs.Rels.{rel_of}
use Rattle.relations.proofs.Gathered.{whole_ok}
use Rattle.rel_ops.specs.Sorted.{insert_at, inserted, sorted}
use Rattle.rel_ops.specs.Sort.{value_at_key, keys_lt, in_order, has_marked_key}
use Rattle.rel_ops.specs.Orders.{IsStableSort, SortOrders}
use Rattle.rel_ops.proofs.Stable.{Each, AtLeast, Rises, rises_sorted, ties_sorted, is_sorted}
use Rattle.rel_ops.proofs.Ranks.{keys_rank}

-- ---- what a test of each item and the next answers

module _ {X : Type 0} (lt : X → X → Bool) where
  isnt : (b : Bool) → true ≡ not b → b ≡ false
  isnt true e = cc
  isnt false e = refl

  clash : (b : Bool) → false ≡ not b → b ≡ false → ⊥
  clash true e k = cc
  clash false e k = cc

  pub answered : (xs : List X) (b : Bool) → IsAllAdjacentAnswer (λ x y b. b ≡ not (lt y x)) xs b → IsTrue b ↔ IsSortedBy lt xs
  answered xs true h = (λ e k d from below. isnt (lt (get_or xs (k + 1) d) (get_or xs k d)) (h k d below), λ up. refl)
  answered [] false h = (λ e. cc, λ up. absurd (omega (arith, h.1)))
  answered (x ∷ xs) false h = (
    λ e. cc,
    λ up. absurd (clash (lt (get_or (x ∷ xs) (h.0 + 1) x) (get_or (x ∷ xs) h.0 x)) (h.2 x) (up h.0 x (omega arith) h.1)),
  )

-- ---- the sort by insertion

module _ {X : Type 0} (lt : X → X → Bool) (o : IsStrictWeakOrder lt) where
  least : (x : X) (xs : List X) → Each (AtLeast lt o x) xs → (k : ℕ) (d : X) → k < length xs → lt (get_or xs k d) x ≡ false
  least x [] e k d h = absurd (omega (arith, h))
  least x (y ∷ ys) e zero d h = e.0
  least x (y ∷ ys) e (suc k) d h = least x ys e.1 k d (omega (arith, h))

  steps_up : (xs : List X) → Rises lt o xs → (k : ℕ) (d : X) → suc k < length xs → lt (get_or xs (suc k) d) (get_or xs k d) ≡ false
  steps_up [] r k d h = absurd (omega (arith, h))
  steps_up (x ∷ xs) r zero d h = least x xs r.0 zero d (omega (arith, h))
  steps_up (x ∷ xs) r (suc k) d h = steps_up xs r.1 k d (omega (arith, h))

  ascends : (xs : List X) → IsSortedBy lt (sorted lt xs)
  ascends xs k d from h =
      let up = sorted lt xs in
      subst (λ n. lt (get_or up n d) (get_or up k d) ≡ false) (sym (add-one k)) (steps_up up (rises_sorted lt o xs) k d (omega (arith, h)))

  put_in : (x : X) (ys : List X) → IsPermutation (x ∷ ys) (inserted lt x ys)
  put_in x [] = IsPermutation-refl (x ∷ [])
  put_in x (y ∷ ys) = on (lt y x) (put_in x ys)
    where
      turned : IsPermutation (x ∷ y ∷ ys) (y ∷ x ∷ ys)
      turned = IsPermutation-swap (x ∷ y ∷ ys) (y ∷ x ∷ ys) 0 1 (omega arith) (omega arith) refl

      on : (b : Bool) → IsPermutation (x ∷ ys) (inserted lt x ys) → IsPermutation (x ∷ y ∷ ys) (insert_at lt b x y ys (inserted lt x ys))
      on true rest = IsPermutation-trans (x ∷ y ∷ ys) (y ∷ x ∷ ys) (y ∷ inserted lt x ys) turned (IsPermutation-cons y (x ∷ ys) (inserted lt x ys) rest)
      on false rest = IsPermutation-refl (x ∷ y ∷ ys)

  only_moves : (xs : List X) → IsPermutation xs (sorted lt xs)
  only_moves [] = IsPermutation-refl []
  only_moves (x ∷ xs) =
      IsPermutation-trans (x ∷ xs) (x ∷ sorted lt xs) (inserted lt x (sorted lt xs)) (IsPermutation-cons x xs (sorted lt xs) (only_moves xs)) (put_in x (sorted lt xs))

  stable_sort : (xs : List X) → IsStableSort lt xs (sorted lt xs)
  stable_sort xs = record { sorted = ascends xs; stable = λ x. ties_sorted lt o x xs; moves = only_moves xs }

  stands : (xs : List X) → IsSortedBy lt xs → sorted lt xs ≡ xs
  stands xs up = sym (is_sorted lt o xs xs up (λ x. refl))

-- ---- ORDER BY

pub sort_orders : (keys : List SortKey) → SortOrders keys
sort_orders keys rel out e =
    let lt = keys_lt value_at_key keys in
    let is = whole_ok (rel_of rel.columns (in_order keys rel.rows) rel.is_open (rel.is_loose || list_any (has_marked_key keys) rel.rows)) out e in
    subst (λ r. IsStableSort lt rel.rows r.rows) is (stable_sort lt (keys_rank value_at_key keys) rel.rows)

-- rows in order stay
pub rows_stay : (keys : List SortKey) (rows : List Row) → IsSortedBy (keys_lt value_at_key keys) rows → in_order keys rows ≡ rows
rows_stay keys rows up = stands (keys_lt value_at_key keys) (keys_rank value_at_key keys) rows up
