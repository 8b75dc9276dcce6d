-- The lots of rows with their keys stand for the groups of the rows.
use Rattle.std.proofs.Common.{◌≡◌, ◌||◌, ℕ, zero, suc, ◌+◌, ◌<◌, ◌≤◌, Bool, true, false, Option, Some, List, [], ◌∷◌, ◌++◌, map, cond, length, drop, get_or, refl, ap, ◌∙◌, sym, append_assoc, append-nil, arith}
use Rattle.std.specs.Prelude.{slice_get}
use Rattle.std.specs.List.{list_any, cons_option}
use Rattle.std.proofs.lemmas.List.{drop_more, drop_all}
use Rattle.value_types.specs.declared.value.Value.{Value}
use Rattle.value_types.specs.Order.{same_key}
use Rattle.dataset_types.specs.declared.row.Row.{Row}
use Rattle.expr_meaning.specs.declared.bindings.ScopeColumn.{ScopeColumn}
use Rattle.rel_group.specs.declared.keyed.Keyed.{Keyed}
use Rattle.rel_group.specs.Keys.{ascending, rows_at}
use Rattle.rel_group.specs.Groups.{key_values, is_certain, bound_rows, group_of, keyed_groups}
use Rattle.rel_group.specs.Calls.{with_key, keyed_from, all_keyed, collected, lots_of, rows_by, bound_lot}

-- what stands at a place, and behind it
there : (all : List Row) (n : ℕ) (r : Row) (rs : List Row) → drop n all ≡ r ∷ rs → (slice_get all n ≡ Some r) × (drop (suc n) all ≡ rs)
there [] zero r rs e = (ap (λ z. slice_get z 0) e, ap (drop 1) e)
there [] (suc n) r rs e = (ap (λ z. slice_get z 0) e, ap (drop 1) e)
there (x ∷ xs) zero r rs e = (ap (λ z. slice_get z 0) e, ap (drop 1) e)
there (x ∷ xs) (suc n) r rs e = there xs n r rs e

module _ (keys : Option (List ℕ)) where
  -- ---- a loop over the rows

  next_keyed : (rows : List Row) (i : ℕ) (r : Row) → i < length rows → r ≡ get_or rows i r →
      keyed_from keys i (drop i rows) ≡ with_key keys i r ∷ keyed_from keys (i + 1) (drop (i + 1) rows)
  next_keyed rows i r h e = ap (keyed_from keys i) (drop_more rows i r h) ∙ ap (λ z. with_key keys i z ∷ keyed_from keys (i + 1) (drop (i + 1) rows)) (sym e)

  pub keyed_more : (all : List Keyed) (rows : List Row) (i : ℕ) (r : Row) → i < length rows → r ≡ get_or rows i r →
      all ++ keyed_from keys i (drop i rows) ≡ (all ++ with_key keys i r ∷ []) ++ keyed_from keys (i + 1) (drop (i + 1) rows)
  keyed_more all rows i r h e = ap (λ z. all ++ z) (next_keyed rows i r h e) ∙ rw append_assoc refl

  pub keyed_ended : (all : List Keyed) (rows : List Row) (i : ℕ) → length rows ≤ i → all ++ keyed_from keys i (drop i rows) ≡ all
  keyed_ended all rows i h = ap (λ z. all ++ keyed_from keys i z) (drop_all i rows h) ∙ append-nil all

  -- ---- the groups

  keys_from : (n : ℕ) (rows : List Row) → map (λ x. x.key) (keyed_from keys n rows) ≡ map (key_values keys) rows
  keys_from n [] = refl
  keys_from n (r ∷ rs) = ap (λ z. key_values keys r ∷ z) (keys_from (n + 1) rs)

  sure_from : (n : ℕ) (rows : List Row) (k : List Value) →
      list_any (λ x. x.certain) (rows_at (λ x. x.key) (keyed_from keys n rows) k) ≡ list_any (is_certain keys) (rows_at (key_values keys) rows k)
  sure_from n [] k = refl
  sure_from n (r ∷ rs) k = on (rows_at (λ x. x.key) (keyed_from keys (n + 1) rs) k) (rows_at (key_values keys) rs k) (same_key k (key_values keys r)) (sure_from (n + 1) rs k)
    where
      on : (xs : List Keyed) (us : List Row) (b : Bool) → list_any (λ x. x.certain) xs ≡ list_any (is_certain keys) us →
          list_any (λ x. x.certain) (cond b (with_key keys n r ∷ xs) xs) ≡ list_any (is_certain keys) (cond b (r ∷ us) us)
      on xs us true e = ap (λ (b : Bool). is_certain keys r || b) e
      on xs us false e = e

  rows_from : (all : List Row) (n : ℕ) (rows : List Row) (k : List Value) → drop n all ≡ rows →
      rows_by all (map (λ x. x.row) (rows_at (λ x. x.key) (keyed_from keys n rows) k)) ≡ rows_at (key_values keys) rows k
  rows_from all n [] k e = refl
  rows_from all n (r ∷ rs) k e =
      let p = there all n r rs e in
      let next : n + 1 ≡ suc n = omega arith in
      on p.0 (rows_at (λ x. x.key) (keyed_from keys (n + 1) rs) k) (rows_at (key_values keys) rs k) (same_key k (key_values keys r))
      (rows_from all (n + 1) rs k (ap (λ m. drop m all) next ∙ p.1))
    where
      on : slice_get all n ≡ Some r → (xs : List Keyed) (us : List Row) (b : Bool) → rows_by all (map (λ x. x.row) xs) ≡ us →
          rows_by all (map (λ x. x.row) (cond b (with_key keys n r ∷ xs) xs)) ≡ cond b (r ∷ us) us
      on h xs us true e = ap (λ o. cons_option o (rows_by all (map (λ x. x.row) xs))) h ∙ ap (λ z. r ∷ z) e
      on h xs us false e = e

  module _ (columns : List ScopeColumn) (rows : List Row) where
    one_stands : (k : List Value) → bound_lot columns rows (collected (all_keyed keys rows) k) ≡ group_of columns keys k (rows_at (key_values keys) rows k)
    one_stands k =
        let sure = sure_from 0 rows k in
        let here = rows_from rows 0 rows k refl in
        λ i. record { key = k; sure = sure i; rows = bound_rows columns (here i) }

    each_stands : (ks : List (List Value)) →
        map (bound_lot columns rows) (map (collected (all_keyed keys rows)) ks) ≡ map (λ k. group_of columns keys k (rows_at (key_values keys) rows k)) ks
    each_stands [] = refl
    each_stands (k ∷ ks) = let one = one_stands k in let more = each_stands ks in λ i. one i ∷ more i

    pub lots_stand : map (bound_lot columns rows) (lots_of keys rows) ≡ keyed_groups columns keys rows
    lots_stand =
        ap (λ ks. map (bound_lot columns rows) (map (collected (all_keyed keys rows)) (ascending ks))) (keys_from 0 rows)
        ∙ each_stands (ascending (map (key_values keys) rows))

pub ruleset keying = (keyed_more, keyed_ended)
