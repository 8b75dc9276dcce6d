-- Tables: lists in which no item stands twice.
use Rattle.std.proofs.Common.{◌≡◌, ℕ, zero, suc, ◌<◌, ◌≤◌, List, [], ◌∷◌, ◌++◌, map, length, get_or, Bool, true, false, if◌then◌else◌, refl, ap, sym, ◌∙◌, arith, inl, inr, ◌⊎◌}
use Rattle.std.specs.List.{Contains, filter}
use Rattle.std.proofs.lemmas.Grind.{common_steps}
use Rattle.std.proofs.lemmas.List.Elements.{Contains-push_cases, Contains-append_right, Contains-append_cases}
use Rattle.value_types.specs.declared.row_id.RowId.{Rec, out-RowId}
use Rattle.value_types.specs.declared.row_id.RowId.TheOpen.{RowId-F}
use Rattle.value_types.specs.declared.row_id.RowId.TheVariants.{outs-Rec}
use Rattle.dataset_types.specs.declared.row.Row.{Row}
use Rattle.dataset_types.specs.Tables.{Distinct, row_ids, numbered}

-- nothing stands in the empty list
pub empty_contains : {A : Type 0} (x : A) → Contains [] x → ⊥
empty_contains x c = absurd (omega (arith, c.1))

Contains-later : {A : Type 0} (y : A) (ys : List A) (x : A) → Contains ys x → Contains (y ∷ ys) x
Contains-later y ys x c = Contains-append_right (y ∷ []) ys x c

Contains-here : {A : Type 0} (y : A) (ys : List A) (x : A) → y ≡ x → Contains (y ∷ ys) x
Contains-here y ys x e = (0, omega arith, e)

-- one item more, which wasn't there
pub Distinct-push : {A : Type 0} (xs : List A) (x : A) → Distinct xs → (Contains xs x → ⊥) → Distinct (xs ++ x ∷ [])
Distinct-push [] x d new = (empty_contains x, tt)
Distinct-push (y ∷ ys) x d new = (
  λ c. elim (Contains-push_cases ys x y c) [ inl held ↦ d.0 held | inr e ↦ new (Contains-here y ys x (sym e)) ],
  Distinct-push ys x d.1 (λ c. new (Contains-later y ys x c)),
)

-- what stands in a list is its first item or stands in the rest
pub Contains-cases : {A : Type 0} (y : A) (ys : List A) (x : A) → Contains (y ∷ ys) x → (y ≡ x) ⊎ Contains ys x
Contains-cases {A} y ys x c = at c.0 c.1 c.2
  where
    at : (k : ℕ) → k < length (y ∷ ys) → get_or (y ∷ ys) k x ≡ x → (y ≡ x) ⊎ Contains ys x
    at zero lt e = inl e
    at (suc k) lt e = inr (k, omega arith, e)

-- lists that share no item, one after the other
pub Distinct-append : {A : Type 0} (xs ys : List A) → Distinct xs → Distinct ys → ((x : A) → Contains xs x → Contains ys x → ⊥) → Distinct (xs ++ ys)
Distinct-append [] ys d e apart = e
Distinct-append (x ∷ xs) ys d e apart = (
  λ c. elim (Contains-append_cases xs ys x c) [ inl held ↦ d.0 held | inr held ↦ apart x (Contains-here x xs x refl) held ],
  Distinct-append xs ys d.1 e (λ z held other. apart z (Contains-later x xs z held) other),
)

-- what keys have, where no two items have one key
module _ {A B : Type 0} (key : A → B) where
  Contains-map : (apart : (x y : A) → key x ≡ key y → x ≡ y) (xs : List A) (x : A) → Contains (map key xs) (key x) → Contains xs x
  Contains-map apart [] x c = absurd (empty_contains (key x) c)
  Contains-map apart (y ∷ ys) x c = elim (Contains-cases (key y) (map key ys) (key x) c) [
    | inl e ↦ Contains-here y ys x (apart y x e)
    | inr held ↦ Contains-later y ys x (Contains-map apart ys x held)
  ]

  -- distinct items have distinct keys, where no two items have one key
  pub Distinct-map : (apart : (x y : A) → key x ≡ key y → x ≡ y) (xs : List A) → Distinct xs → Distinct (map key xs)
  Distinct-map apart [] d = tt
  Distinct-map apart (x ∷ xs) d = (λ c. d.0 (Contains-map apart xs x c), Distinct-map apart xs d.1)

  module _ (p : A → Bool) where
    abbrev kept : Bool → A → List A → List A
    kept b x xs = if b then x ∷ xs else xs

    Contains-filter : (xs : List A) (k : B) → Contains (map key (filter p xs)) k → Contains (map key xs) k
    Contains-filter [] k c = c
    Contains-filter (x ∷ xs) k c = by (p x) (Contains-filter xs k) c
      where
        by : (b : Bool) → (Contains (map key (filter p xs)) k → Contains (map key xs) k) → Contains (map key (kept b x (filter p xs))) k → Contains (key x ∷ map key xs) k
        by true rest c = elim (Contains-cases (key x) (map key (filter p xs)) k c) [
          | inl e ↦ Contains-here (key x) (map key xs) k e
          | inr held ↦ Contains-later (key x) (map key xs) k (rest held)
        ]
        by false rest c = Contains-later (key x) (map key xs) k (rest c)

    -- the keys of the items that pass a test stay distinct
    pub Distinct-filter : (xs : List A) → Distinct (map key xs) → Distinct (map key (filter p xs))
    Distinct-filter [] d = tt
    Distinct-filter (x ∷ xs) d = by (p x) (Distinct-filter xs d.1)
      where
        by : (b : Bool) → Distinct (map key (filter p xs)) → Distinct (map key (kept b x (filter p xs)))
        by true rest = (λ c. d.0 (Contains-filter xs (key x) c), rest)
        by false rest = rest

-- a single item
pub distinct_one : {A : Type 0} (x : A) → Distinct (x ∷ [])
distinct_one x = (empty_contains x, tt)

pub Rec_number : (a b : ℕ) → Rec a ≡ Rec b → a ≡ b
Rec_number a b e =
    let same : RowId-F.Rec a ≡ RowId-F.Rec b = sym (outs-Rec a) ∙ (ap out-RowId e ∙ outs-Rec b) in
    cc

-- of numbered ids, none has a greater number than there are
numbered_within : (n m : ℕ) → Contains (numbered n) (Rec m) → m ≤ n
numbered_within zero m c = absurd (empty_contains (Rec m) c)
numbered_within (suc n) m c = elim (Contains-push_cases (numbered n) (Rec (suc n)) (Rec m) c) [
  | inl held ↦ let le = numbered_within n m held in omega (arith, le)
  | inr e ↦ let is = Rec_number (suc n) m e in omega (arith, is)
]

-- numbered ids are distinct
pub distinct_numbered : (n : ℕ) → Distinct (numbered n)
distinct_numbered zero = tt
distinct_numbered (suc n) = Distinct-push (numbered n) (Rec (suc n)) (distinct_numbered n) (λ c. let le = numbered_within n (suc n) c in omega (arith, le))

-- one more row, with the next number
pub numbered_push : (rows : List Row) (row : Row) → row_ids rows ≡ numbered (length rows) → row.id ≡ Rec (suc (length rows)) → row_ids (rows ++ row ∷ []) ≡ numbered (length (rows ++ row ∷ []))
numbered_push rows row all next = grind (arith, common_steps)
