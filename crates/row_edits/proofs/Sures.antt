-- Rows of which some are sure, and what is shown of them.
use Rattle.std.proofs.Common.{◌≡◌, ℕ, zero, suc, Bool, true, false, not, ◌||◌, List, [], ◌∷◌, ◌++◌, length, map, cond, filter, refl, ap, ◌∙◌, sym, arith}
use Rattle.std.specs.Prelude.{if◌then◌else◌, ◌==◌, Option, Some, None, option_map}
use Rattle.std.specs.List.{list_any, Contains}
use Rattle.std.specs.Cmp.{unsigned_Decides}
use Rattle.std.proofs.lemmas.List.Elements.{filter-append}
use Rattle.value_types.specs.SameIds.{same_id, id_decides}
use Rattle.value_types.specs.declared.value.Value.{Value}
use Rattle.value_types.specs.declared.row_id.RowId.{RowId}
use Rattle.caveat_marks.specs.Shown.{ShownRow, values_at}
use Rattle.row_edits.specs.ByText.{is_text, put_in, only, without, is_there, up_to, changed_at}
use Rattle.row_edits.specs.Ids.{shown_id}
use Rattle.row_edits.proofs.PutIn.{here, later, filter_swap, all_kept}

-- ---- rows that pass a test, by their texts

module _ {R : Type 0} (id_of : R → RowId) (p : R → Bool) where
  pub only_filter : (text : List ℕ) (rows : List R) → only id_of text (filter p rows) ≡ filter p (only id_of text rows)
  only_filter text rows = filter_swap p (λ r. is_text text (id_of r)) rows

  pub without_filter : (text : List ℕ) (rows : List R) → without id_of text (filter p rows) ≡ filter p (without id_of text rows)
  without_filter text rows = filter_swap p (λ r. not (is_text text (id_of r))) rows

  -- where the row of the text passes
  pub after_filter : (text : List ℕ) (more rows : List R) → list_any (λ r. not (p r)) (only id_of text rows) ≡ false →
      filter p (put_in (up_to id_of text rows) more rows) ≡ put_in (up_to id_of text (filter p rows)) (filter p more) (filter p rows)
  after_filter text more [] e = filter-append p more []
  after_filter text more (r ∷ rs) e = on (is_text text (id_of r)) (p r) refl refl e (λ h. after_filter text more rs h)
    where
      on : (b c : Bool) → is_text text (id_of r) ≡ b → p r ≡ c →
          list_any (λ x. not (p x)) (cond b (r ∷ only id_of text rs) (only id_of text rs)) ≡ false →
          (list_any (λ x. not (p x)) (only id_of text rs) ≡ false →
          filter p (put_in (up_to id_of text rs) more rs) ≡ put_in (up_to id_of text (filter p rs)) (filter p more) (filter p rs)) →
          filter p (put_in (if b then 1 else suc (up_to id_of text rs)) more (r ∷ rs))
          ≡ put_in (up_to id_of text (cond c (r ∷ filter p rs) (filter p rs))) (filter p more) (cond c (r ∷ filter p rs) (filter p rs))
      on true true is passes h rest = rw (is, passes) (ap (λ z. r ∷ z) (filter-append p more rs))
      on true false is passes h rest = absurd (fails passes h)
        where
          fails : p r ≡ false → (not (p r) || list_any (λ x. not (p x)) (only id_of text rs)) ≡ false → ⊥
          fails k g = at (p r) k g
            where
              at : (d : Bool) → d ≡ false → (not d || list_any (λ x. not (p x)) (only id_of text rs)) ≡ false → ⊥
              at true k g = cc
              at false k g = cc
      on false true is passes h rest = rw (is, passes) (ap (λ z. r ∷ z) (rest h))
      on false false is passes h rest = rw passes (rest h)

  pub there_filter : (text : List ℕ) (rows : List R) → list_any (λ r. not (p r)) (only id_of text rows) ≡ false → is_there id_of text (filter p rows) ≡ is_there id_of text rows
  there_filter text rows e = ap (λ z. length z == 1) (only_filter text rows ∙ all_kept p (only id_of text rows) e)

  pub gone_filter : (text : List ℕ) (rows : List R) → is_there id_of text rows ≡ true → list_any (λ r. not (p r)) (only id_of text rows) ≡ true →
      is_there id_of text (filter p rows) ≡ false
  gone_filter text rows e k = ap (λ z. length z == 1) (only_filter text rows) ∙ on (only id_of text rows) e k
    where
      on : (xs : List R) → length xs == 1 ≡ true → list_any (λ r. not (p r)) xs ≡ true → length (filter p xs) == 1 ≡ false
      on [] e k = cc
      on (x ∷ []) e k = at (p x) k
        where
          at : (b : Bool) → (not b || false) ≡ true → length (cond b (x ∷ []) []) == 1 ≡ false
          at true k = cc
          at false k = refl
      on (x ∷ y ∷ ys) e k = let n = (unsigned_Decides (length (x ∷ y ∷ ys)) 1).0 e in absurd (omega (arith, n))

-- ---- what is shown, by ids

abbrev pub Values : Type 0
Values = Option (List (Option Value))

-- a row in front, or behind rows of other ids
swap_in : (x : ShownRow) (more xs : List ShownRow) (i : RowId) → (Contains (map shown_id more) x.id → ⊥) → values_at (x ∷ (more ++ xs)) i ≡ values_at (more ++ x ∷ xs) i
swap_in x [] xs i apart = refl
swap_in x (m ∷ ms) xs i apart =
    on (same_id x.id i) (same_id m.id i) refl refl (swap_in x ms xs i (λ c. apart (later m.id (map shown_id ms) x.id c)))
  where
    on : (b c : Bool) → same_id x.id i ≡ b → same_id m.id i ≡ c → (if b then Some x.values else values_at (ms ++ xs) i) ≡ values_at (ms ++ x ∷ xs) i →
        (if b then Some x.values else (if c then Some m.values else values_at (ms ++ xs) i)) ≡ (if c then Some m.values else values_at (ms ++ x ∷ xs) i)
    on true true e k rest = absurd (apart (here m.id (map shown_id ms) x.id ((id_decides m.id i).0 k ∙ sym ((id_decides x.id i).0 e))))
    on true false e k rest = rest
    on false true e k rest = refl
    on false false e k rest = rest

-- rows of other ids that are put in have the same values wherever they are put
pub put_at_id : (n : ℕ) (more xs : List ShownRow) (i : RowId) → ((k : RowId) → Contains (map shown_id more) k → Contains (map shown_id xs) k → ⊥) →
    values_at (put_in n more xs) i ≡ values_at (more ++ xs) i
put_at_id zero more xs i apart = refl
put_at_id (suc n) more [] i apart = refl
put_at_id (suc n) more (x ∷ xs) i apart =
    ap (λ v. if same_id x.id i then Some x.values else v) (put_at_id n more xs i (λ k a b. apart k a (later x.id (map shown_id xs) k b)))
    ∙ swap_in x more xs i (λ c. apart x.id c (here x.id (map shown_id xs) x.id refl))

-- the first values, or else the others
abbrev first_of : Values → Values → Values
first_of None other = other
first_of (Some vs) other = Some vs

values_append : (xs ys : List ShownRow) (i : RowId) → values_at (xs ++ ys) i ≡ first_of (values_at xs i) (values_at ys i)
values_append [] ys i = refl
values_append (x ∷ xs) ys i = on (same_id x.id i) (values_append xs ys i)
  where
    on : (b : Bool) → values_at (xs ++ ys) i ≡ first_of (values_at xs i) (values_at ys i) →
        (if b then Some x.values else values_at (xs ++ ys) i) ≡ first_of (if b then Some x.values else values_at xs i) (values_at ys i)
    on true e = refl
    on false e = e

-- the rows whose ids pass a test
pub values_filter : (q : RowId → Bool) (xs : List ShownRow) (i : RowId) → values_at (filter (λ r. q r.id) xs) i ≡ (if q i then values_at xs i else None)
values_filter q [] i = on (q i)
  where
    on : (b : Bool) → ◌≡◌ {A = Values} None (if b then None else None)
    on true = refl
    on false = refl
values_filter q (x ∷ xs) i = on (q x.id) (same_id x.id i) refl refl (values_filter q xs i)
  where
    passes : same_id x.id i ≡ true → q i ≡ q x.id
    passes e = ap q (sym ((id_decides x.id i).0 e))

    off : (b : Bool) → (if b then values_at xs i else None) ≡ (if b then values_at xs i else None)
    off b = refl

    on : (b s : Bool) → q x.id ≡ b → same_id x.id i ≡ s → values_at (filter (λ r. q r.id) xs) i ≡ (if q i then values_at xs i else None) →
        values_at (cond b (x ∷ filter (λ r. q r.id) xs) (filter (λ r. q r.id) xs)) i ≡ (if q i then (if s then Some x.values else values_at xs i) else None)
    on true true e k rest = rw (k, passes k ∙ e) refl
    on true false e k rest = rw k rest
    on false true e k rest = rest ∙ rw (passes k ∙ e) refl
    on false false e k rest = rest

-- the rows of an id that passes and then the others are all rows
pub by_halves : (q : RowId → Bool) (xs : List ShownRow) (i : RowId) → values_at (filter (λ r. q r.id) xs ++ filter (λ r. not (q r.id)) xs) i ≡ values_at xs i
by_halves q xs i =
    values_append (filter (λ r. q r.id) xs) (filter (λ r. not (q r.id)) xs) i
    ∙ rw (values_filter q xs i, values_filter (λ j. not (q j)) xs i) (on (q i) (values_at xs i))
  where
    on : (b : Bool) (v : Values) → first_of (if b then v else None) (if not b then v else None) ≡ v
    on true None = refl
    on true (Some vs) = refl
    on false v = refl

-- the values of an id that is changed
pub values_changed : (text : List ℕ) (g : List (Option Value) → List (Option Value)) (xs : List ShownRow) (i : RowId) →
    values_at (changed_at shown_id text (λ r. record { id = r.id; values = g r.values }) xs) i ≡ (if is_text text i then option_map g (values_at xs i) else values_at xs i)
values_changed text g [] i = on (is_text text i)
  where
    on : (b : Bool) → ◌≡◌ {A = Values} None (if b then None else None)
    on true = refl
    on false = refl
values_changed text g (x ∷ xs) i = on (is_text text x.id) (same_id x.id i) refl refl (values_changed text g xs i)
  where
    rest_of : Values
    rest_of = values_at (changed_at shown_id text (λ r. record { id = r.id; values = g r.values }) xs) i

    as_one : same_id x.id i ≡ true → is_text text i ≡ is_text text x.id
    as_one e = ap (is_text text) (sym ((id_decides x.id i).0 e))

    new : Bool → ShownRow
    new b = if b then record { id = x.id; values = g x.values } else x

    on : (b s : Bool) → is_text text x.id ≡ b → same_id x.id i ≡ s → rest_of ≡ (if is_text text i then option_map g (values_at xs i) else values_at xs i) →
        values_at (new b ∷ changed_at shown_id text (λ r. record { id = r.id; values = g r.values }) xs) i
        ≡ (if is_text text i then option_map g (if s then Some x.values else values_at xs i) else (if s then Some x.values else values_at xs i))
    on true true e k rest = rw (k, as_one k ∙ e) refl
    on false true e k rest = rw (k, as_one k ∙ e) refl
    on true false e k rest = rw k rest
    on false false e k rest = rw k rest
