-- Lists whose items are sorted, taken or changed.
use Rattle.std.proofs.Common.{◌≡◌, ℕ, zero, suc, Bool, true, false, List, [], ◌∷◌, map, take, get_or, refl, subst, ap, ◌∙◌, sym, inl, inr, arith}
use Rattle.std.specs.List.{Contains}
use Rattle.std.proofs.lemmas.List.Elements.{Contains-append_right}
use Rattle.dataset_types.specs.Tables.{Distinct}
use Rattle.dataset_types.proofs.TableLemmas.{empty_contains, Contains-cases}
use Rattle.relations.proofs.Gathered.{Each}
use Rattle.rel_ops.specs.Sorted.{insert_at, inserted, sorted}

-- ---- what stands in a list

here : {X : Type 0} (y : X) (ys : List X) → Contains (y ∷ ys) y
here y ys = (0, omega arith, refl)

there : {X : Type 0} (y : X) (ys : List X) (x : X) → Contains ys x → Contains (y ∷ ys) x
there y ys x c = Contains-append_right (y ∷ []) ys x c

-- ---- the first so many

pub take_each : {X : Type 0} (P : X → Type 0) (n : ℕ) (xs : List X) → Each P xs → Each P (take n xs)
take_each P zero xs e = tt
take_each P (suc n) [] e = tt
take_each P (suc n) (x ∷ xs) e = (e.0, take_each P n xs e.1)

module _ {X K : Type 0} (key : X → K) where
  taken_from : (n : ℕ) (xs : List X) (k : K) → Contains (map key (take n xs)) k → Contains (map key xs) k
  taken_from zero xs k c = absurd (empty_contains k c)
  taken_from (suc n) [] k c = c
  taken_from (suc n) (x ∷ xs) k c = elim (Contains-cases (key x) (map key (take n xs)) k c) [
    | inl e ↦ subst (Contains (key x ∷ map key xs)) e (here (key x) (map key xs))
    | inr held ↦ there (key x) (map key xs) k (taken_from n xs k held)
  ]

  pub take_distinct : (n : ℕ) (xs : List X) → Distinct (map key xs) → Distinct (map key (take n xs))
  take_distinct zero xs d = tt
  take_distinct (suc n) [] d = tt
  take_distinct (suc n) (x ∷ xs) d = (λ c. d.0 (taken_from n xs (key x) c), take_distinct n xs d.1)

pub take_map : {X Y : Type 0} (f : X → Y) (n : ℕ) (xs : List X) → map f (take n xs) ≡ take n (map f xs)
take_map f zero xs = refl
take_map f (suc n) [] = refl
take_map f (suc n) (x ∷ xs) = ap (λ z. f x ∷ z) (take_map f n xs)

-- ---- changed items

pub map_each : {X Y : Type 0} (f : X → Y) (P : X → Type 0) (Q : Y → Type 0) → ((x : X) → P x → Q (f x)) → (xs : List X) → Each P xs → Each Q (map f xs)
map_each f P Q h [] e = tt
map_each f P Q h (x ∷ xs) e = (h x e.0, map_each f P Q h xs e.1)

pub map_same : {X Y : Type 0} (f g : X → Y) → ((x : X) → f x ≡ g x) → (xs : List X) → map f xs ≡ map g xs
map_same f g h [] = refl
map_same f g h (x ∷ xs) = λ i. h x i ∷ map_same f g h xs i

pub map_twice : {X Y Z : Type 0} (f : X → Y) (g : Y → Z) (xs : List X) → map g (map f xs) ≡ map (λ x. g (f x)) xs
map_twice f g [] = refl
map_twice f g (x ∷ xs) = ap (λ z. g (f x) ∷ z) (map_twice f g xs)

pub map_itself : {X : Type 0} (xs : List X) → map (λ x. x) xs ≡ xs
map_itself [] = refl
map_itself (x ∷ xs) = ap (λ z. x ∷ z) (map_itself xs)

pub get_map : {X Y : Type 0} (f : X → Y) (xs : List X) (n : ℕ) (d : X) → get_or (map f xs) n (f d) ≡ f (get_or xs n d)
get_map f [] n d = refl
get_map f (x ∷ xs) zero d = refl
get_map f (x ∷ xs) (suc n) d = get_map f xs n d

-- ---- sorted items

module _ {X : Type 0} (lt : X → X → Bool) where
  pub each_inserted : (P : X → Type 0) (x : X) (xs : List X) → P x → Each P xs → Each P (inserted lt x xs)
  each_inserted P x [] h e = (h, tt)
  each_inserted P x (y ∷ ys) h e = on (lt y x) (each_inserted P x ys h e.1)
    where
      on : (b : Bool) → Each P (inserted lt x ys) → Each P (insert_at lt b x y ys (inserted lt x ys))
      on true rest = (e.0, rest)
      on false rest = (h, e)

  pub each_sorted : (P : X → Type 0) (xs : List X) → Each P xs → Each P (sorted lt xs)
  each_sorted P [] e = tt
  each_sorted P (x ∷ xs) e = each_inserted P x (sorted lt xs) e.0 (each_sorted P xs e.1)

  module _ {K : Type 0} (key : X → K) where
    from_inserted : (x : X) (ys : List X) (k : K) → Contains (map key (inserted lt x ys)) k → Contains (key x ∷ map key ys) k
    from_inserted x [] k c = c
    from_inserted x (y ∷ ys) k c = on (lt y x) (λ h. from_inserted x ys k h) c
      where
        swap : Contains (key x ∷ map key ys) k → Contains (key x ∷ key y ∷ map key ys) k
        swap h = elim (Contains-cases (key x) (map key ys) k h) [
          | inl e ↦ subst (Contains (key x ∷ key y ∷ map key ys)) e (here (key x) (key y ∷ map key ys))
          | inr held ↦ there (key x) (key y ∷ map key ys) k (there (key y) (map key ys) k held)
        ]

        on : (b : Bool) → (Contains (map key (inserted lt x ys)) k → Contains (key x ∷ map key ys) k) → Contains (map key (insert_at lt b x y ys (inserted lt x ys))) k →
            Contains (key x ∷ key y ∷ map key ys) k
        on true rest h = elim (Contains-cases (key y) (map key (inserted lt x ys)) k h) [
          | inl e ↦ there (key x) (key y ∷ map key ys) k (subst (Contains (key y ∷ map key ys)) e (here (key y) (map key ys)))
          | inr held ↦ swap (rest held)
        ]
        on false rest h = h

    pub from_sorted : (xs : List X) (k : K) → Contains (map key (sorted lt xs)) k → Contains (map key xs) k
    from_sorted [] k c = c
    from_sorted (x ∷ xs) k c = elim (Contains-cases (key x) (map key (sorted lt xs)) k (from_inserted x (sorted lt xs) k c)) [
      | inl e ↦ subst (Contains (key x ∷ map key xs)) e (here (key x) (map key xs))
      | inr held ↦ there (key x) (map key xs) k (from_sorted xs k held)
    ]

    inserted_distinct : (x : X) (ys : List X) → (Contains (map key ys) (key x) → ⊥) → Distinct (map key ys) → Distinct (map key (inserted lt x ys))
    inserted_distinct x [] new d = (λ c. empty_contains (key x) c, tt)
    inserted_distinct x (y ∷ ys) new d = on (lt y x) (inserted_distinct x ys (λ c. new (there (key y) (map key ys) (key x) c)) d.1)
      where
        apart : Contains (map key (inserted lt x ys)) (key y) → ⊥
        apart c = elim (Contains-cases (key x) (map key ys) (key y) (from_inserted x ys (key y) c)) [
          | inl e ↦ new (subst (Contains (key y ∷ map key ys)) (sym e) (here (key y) (map key ys)))
          | inr held ↦ d.0 held
        ]

        on : (b : Bool) → Distinct (map key (inserted lt x ys)) → Distinct (map key (insert_at lt b x y ys (inserted lt x ys)))
        on true rest = (apart, rest)
        on false rest = (new, d)

    -- keys stay distinct
    pub sorted_distinct : (xs : List X) → Distinct (map key xs) → Distinct (map key (sorted lt xs))
    sorted_distinct [] d = tt
    sorted_distinct (x ∷ xs) d = inserted_distinct x (sorted lt xs) (λ c. d.0 (from_sorted xs (key x) c)) (sorted_distinct xs d.1)

-- sorting items that are changed, where the order goes along
module _ {X Y : Type 0} (lt : X → X → Bool) (lt' : Y → Y → Bool) (f : X → Y) (Good : X → Type 0) (same : (x y : X) → Good x → Good y → lt' (f x) (f y) ≡ lt x y) where
  map_inserted : (x : X) (ys : List X) → Good x → Each Good ys → map f (inserted lt x ys) ≡ inserted lt' (f x) (map f ys)
  map_inserted x [] g e = refl
  map_inserted x (y ∷ ys) g e = rw (same y x e.0 g) (on (lt y x) (map_inserted x ys g e.1))
    where
      on : (b : Bool) → map f (inserted lt x ys) ≡ inserted lt' (f x) (map f ys) →
          map f (insert_at lt b x y ys (inserted lt x ys)) ≡ insert_at lt' b (f x) (f y) (map f ys) (inserted lt' (f x) (map f ys))
      on true rest = ap (λ z. f y ∷ z) rest
      on false rest = refl

  pub map_sorted : (xs : List X) → Each Good xs → map f (sorted lt xs) ≡ sorted lt' (map f xs)
  map_sorted [] e = refl
  map_sorted (x ∷ xs) e = map_inserted x (sorted lt xs) e.0 (each_sorted lt Good xs e.1) ∙ ap (inserted lt' (f x)) (map_sorted xs e.1)
