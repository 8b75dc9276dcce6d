-- Lists with an item put in, and lists with items left out.
use Rattle.std.proofs.Common.{◌≡◌, ℕ, zero, suc, Bool, true, false, List, [], ◌∷◌, map, cond, filter, refl, ap, sym, inl, inr, ◌⊎◌, arith}
use Rattle.std.specs.List.{insert, Contains}
use Rattle.std.proofs.lemmas.List.Elements.{Contains-append_right}
use Rattle.dataset_types.specs.Tables.{Distinct}
use Rattle.dataset_types.proofs.TableLemmas.{empty_contains, Contains-cases}
use Rattle.relations.proofs.Gathered.{Each}

pub here : {A : Type 0} (x y : A) (ys : List A) → y ≡ x → Contains (y ∷ ys) x
here x y ys e = (0, omega arith, e)

pub there : {A : Type 0} (x y : A) (ys : List A) → Contains ys x → Contains (y ∷ ys) x
there x y ys c = Contains-append_right (y ∷ []) ys x c

-- ---- an item put in

pub map_insert : {A B : Type 0} (f : A → B) (xs : List A) (k : ℕ) (x : A) → map f (insert xs k x) ≡ insert (map f xs) k (f x)
map_insert f xs zero x = refl
map_insert f [] (suc k) x = refl
map_insert f (y ∷ ys) (suc k) x = ap (λ z. f y ∷ z) (map_insert f ys k x)

module _ {A : Type 0} where
  pub each_insert : (P : A → Type 0) (xs : List A) (k : ℕ) (x : A) → Each P xs → P x → Each P (insert xs k x)
  each_insert P xs zero x e p = (p, e)
  each_insert P [] (suc k) x e p = (p, tt)
  each_insert P (y ∷ ys) (suc k) x e p = (e.0, each_insert P ys k x e.1 p)

  in_insert : (xs : List A) (k : ℕ) (x z : A) → Contains (insert xs k x) z → (x ≡ z) ⊎ Contains xs z
  in_insert xs zero x z c = Contains-cases x xs z c
  in_insert [] (suc k) x z c = Contains-cases x [] z c
  in_insert (y ∷ ys) (suc k) x z c = elim (Contains-cases y (insert ys k x) z c) [
    | inl e ↦ inr (here z y ys e)
    | inr held ↦ elim (in_insert ys k x z held) [ inl e ↦ inl e | inr rest ↦ inr (there z y ys rest) ]
  ]

  -- one item more, which wasn't there, at any place
  pub distinct_insert : (xs : List A) (k : ℕ) (x : A) → Distinct xs → (Contains xs x → ⊥) → Distinct (insert xs k x)
  distinct_insert xs zero x d new = (new, d)
  distinct_insert [] (suc k) x d new = (empty_contains x, tt)
  distinct_insert (y ∷ ys) (suc k) x d new = (
    λ c. elim (in_insert ys k x y c) [ inl e ↦ new (here x y ys (sym e)) | inr held ↦ d.0 held ],
    distinct_insert ys k x d.1 (λ c. new (there x y ys c)),
  )

-- ---- items left out

pub each_filter : {A : Type 0} (P : A → Type 0) (p : A → Bool) (xs : List A) → Each P xs → Each P (filter p xs)
each_filter P p [] e = tt
each_filter {A} P p (x ∷ xs) e = by (p x) (each_filter P p xs e.1)
  where
    by : (b : Bool) → Each P (filter p xs) → Each P (cond b (x ∷ filter p xs) (filter p xs))
    by true rest = (e.0, rest)
    by false rest = rest

-- ---- items changed

pub each_map : {A B : Type 0} (P : A → Type 0) (Q : B → Type 0) (f : A → B) → ((x : A) → P x → Q (f x)) → (xs : List A) → Each P xs → Each Q (map f xs)
each_map P Q f h [] e = tt
each_map P Q f h (x ∷ xs) e = (h x e.0, each_map P Q f h xs e.1)
