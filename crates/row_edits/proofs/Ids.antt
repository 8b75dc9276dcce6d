-- The ids of rows that are put in, taken out or moved.
use Rattle.std.proofs.Common.{◌≡◌, ℕ, Bool, true, false, not, ◌||◌, List, [], ◌∷◌, map, cond, filter, refl, subst, ap, ◌∙◌, sym, inl, inr}
use Rattle.std.specs.List.{Contains}
use Rattle.value_types.specs.SameIds.{same_id, id_decides}
use Rattle.value_types.specs.declared.row_id.RowId.{RowId}
use Rattle.dataset_types.specs.declared.row.Row.{Row}
use Rattle.dataset_types.specs.Tables.{Distinct, row_ids}
use Rattle.dataset_types.proofs.TableLemmas.{empty_contains, Contains-cases, Distinct-filter, distinct_one}
use Rattle.caveat_marks.specs.Shown.{shown_row}
use Rattle.relations.specs.Shown.{sure_rows}
use Rattle.row_edits.specs.ByText.{put_in, is_taken}
use Rattle.row_edits.specs.Ids.{row_id, shown_id}
use Rattle.row_edits.proofs.PutIn.{here, later, map_put, put_distinct}

-- an id that isn't taken isn't there
pub not_taken : (rows : List Row) (i : RowId) → is_taken row_id i rows ≡ false → Contains (row_ids rows) i → ⊥
not_taken [] i e c = empty_contains i c
not_taken (r ∷ rs) i e c = elim (Contains-cases r.id (row_ids rs) i c) [
  | inl is ↦ at (same_id r.id i) ((id_decides r.id i).1 is) e
  | inr held ↦ not_taken rs i (rest (same_id r.id i) e) held
]
  where
    at : (b : Bool) → b ≡ true → (b || is_taken row_id i rs) ≡ false → ⊥
    at true k e = cc
    at false k e = cc

    rest : (b : Bool) → (b || is_taken row_id i rs) ≡ false → is_taken row_id i rs ≡ false
    rest true e = cc
    rest false e = e

-- what stands in a list of one
pub only_one : {X : Type 0} (x k : X) → Contains (x ∷ []) k → x ≡ k
only_one x k c = elim (Contains-cases x [] k c) [ inl e ↦ e | inr held ↦ absurd (empty_contains k held) ]

-- one more row, of an id that isn't taken
pub with_one : (new : Row) (n : ℕ) (rows : List Row) → is_taken row_id new.id rows ≡ false → Distinct (row_ids rows) → Distinct (row_ids (put_in n (new ∷ []) rows))
with_one new n rows e d =
    subst Distinct (sym (map_put (λ r. r.id) n (new ∷ []) rows))
    (put_distinct n (new.id ∷ []) (row_ids rows) (distinct_one new.id) d (λ k c h. not_taken rows new.id e (subst (Contains (row_ids rows)) (sym (only_one new.id k c)) h)))

-- ---- rows whose ids pass a test, and the others

module _ {X : Type 0} (id_of : X → RowId) where
  from_filter : (p : X → Bool) (xs : List X) (k : RowId) → Contains (map id_of (filter p xs)) k → Contains (map id_of xs) k
  from_filter p [] k c = c
  from_filter p (x ∷ xs) k c = on (p x) c (λ h. from_filter p xs k h)
    where
      on : (b : Bool) → Contains (map id_of (cond b (x ∷ filter p xs) (filter p xs))) k → (Contains (map id_of (filter p xs)) k → Contains (map id_of xs) k) → Contains (id_of x ∷ map id_of xs) k
      on true h rest = elim (Contains-cases (id_of x) (map id_of (filter p xs)) k h) [
        | inl e ↦ here (id_of x) (map id_of xs) k e
        | inr held ↦ later (id_of x) (map id_of xs) k (rest held)
      ]
      on false h rest = later (id_of x) (map id_of xs) k (rest h)

  -- an id of a row that passes
  pub passes : (q : RowId → Bool) (xs : List X) (k : RowId) → Contains (map id_of (filter (λ x. q (id_of x)) xs)) k → q k ≡ true
  passes q [] k c = absurd (empty_contains k c)
  passes q (x ∷ xs) k c = on (q (id_of x)) refl c (λ h. passes q xs k h)
    where
      on : (b : Bool) → q (id_of x) ≡ b → Contains (map id_of (cond b (x ∷ filter (λ y. q (id_of y)) xs) (filter (λ y. q (id_of y)) xs))) k →
          (Contains (map id_of (filter (λ y. q (id_of y)) xs)) k → q k ≡ true) → q k ≡ true
      on true e h rest = elim (Contains-cases (id_of x) (map id_of (filter (λ y. q (id_of y)) xs)) k h) [
        | inl is ↦ ap q (sym is) ∙ e
        | inr held ↦ rest held
      ]
      on false e h rest = rest h

  -- no id is on both sides
  pub apart : (q : RowId → Bool) (xs : List X) (k : RowId) → Contains (map id_of (filter (λ x. q (id_of x)) xs)) k → Contains (map id_of (filter (λ x. not (q (id_of x))) xs)) k → ⊥
  apart q xs k c h = at (q k) (passes q xs k c) (passes (λ i. not (q i)) xs k h)
    where
      at : (b : Bool) → b ≡ true → not b ≡ true → ⊥
      at true e k = cc
      at false e k = cc

-- those that pass, put in among the others
pub with_moved : (q : RowId → Bool) (n : ℕ) (rows : List Row) → Distinct (row_ids rows) →
    Distinct (row_ids (put_in n (filter (λ r. q r.id) rows) (filter (λ r. not (q r.id)) rows)))
with_moved q n rows d =
    subst Distinct (sym (map_put (λ r. r.id) n (filter (λ r. q r.id) rows) (filter (λ r. not (q r.id)) rows)))
    (put_distinct n (row_ids (filter (λ r. q r.id) rows)) (row_ids (filter (λ r. not (q r.id)) rows))
    (Distinct-filter (λ r. r.id) (λ r. q r.id) rows d) (Distinct-filter (λ r. r.id) (λ r. not (q r.id)) rows d)
    (apart (λ r. r.id) q rows))

-- ---- ids of what is shown

-- the id of a row that is shown is one of all
pub shown_among : (rows : List Row) (k : RowId) → Contains (map shown_id (sure_rows rows)) k → Contains (row_ids rows) k
shown_among rows k c = from_filter (λ r. r.id) (λ r. r.sure) rows k (subst (λ z. Contains z k) (ids_shown (filter (λ r. r.sure) rows)) c)
  where
    ids_shown : (xs : List Row) → map shown_id (map shown_row xs) ≡ row_ids xs
    ids_shown [] = refl
    ids_shown (x ∷ xs) = ap (λ z. x.id ∷ z) (ids_shown xs)

-- the id of one row
pub one_id : (row : Row) → Distinct (row_ids (row ∷ []))
one_id row = distinct_one row.id
