-- What is in order and keeps ties in their order is the sort by insertion.
use Rattle.std.proofs.Common.{◌≡◌, ℕ, suc, ◌<◌, ◌≤◌, Bool, true, false, not, ◌&&◌, cond, List, [], ◌∷◌, length, get_or, filter, refl, ap, sym, ◌∙◌, subst, arith}
use Rattle.std.specs.Bool.{⊤}
use Rattle.std.specs.Cmp.{IsStrictWeakOrder}
use Rattle.std.specs.List.Sorted.{ties, IsSortedBy, IsStableBy}
use Rattle.std.proofs.lemmas.List.Sorted.{sorted_far}
use Rattle.rel_ops.specs.Sorted.{insert_at, inserted, sorted}

abbrev pub Each : {X : Type 0} → (X → Type 0) → List X → Type 0
Each P [] = ⊤
Each P (x ∷ xs) = P x × Each P xs

module _ {X : Type 0} (lt : X → X → Bool) (o : IsStrictWeakOrder lt) where
  -- none is below x
  abbrev pub AtLeast : X → X → Type 0
  AtLeast x y = lt y x ≡ false

  abbrev pub Rises : List X → Type 0
  Rises [] = ⊤
  Rises (x ∷ xs) = Each (AtLeast x) xs × Rises xs

  itself : (x : X) → lt x x ≡ false
  itself x = on (lt x x) refl
    where
      on : (b : Bool) → lt x x ≡ b → lt x x ≡ false
      on true e = o.one_way x x e
      on false e = e

  -- the head of what passes is one of the list
  head_of : (P : X → Type 0) (p : X → Bool) (xs : List X) (x : X) (rest : List X) → Each P xs → filter p xs ≡ x ∷ rest → P x
  head_of P p [] x rest e k = cc
  head_of P p (y ∷ ys) x rest e k = on (p y) k (λ q. head_of P p ys x rest e.1 q)
    where
      on : (b : Bool) → cond b (y ∷ filter p ys) (filter p ys) ≡ x ∷ rest → (filter p ys ≡ x ∷ rest → P x) → P x
      on true q again = subst P (first q) e.0
        where
          first : y ∷ filter p ys ≡ x ∷ rest → y ≡ x
          first z = cc
      on false q again = again q

  ties_same : (x : X) → ties lt x x ≡ true
  ties_same x = rw (itself x) refl

  keeps : (p : X → Bool) (x : X) (xs : List X) → p x ≡ true → filter p (x ∷ xs) ≡ x ∷ filter p xs
  keeps p x xs e = ap (λ b. cond b (x ∷ filter p xs) (filter p xs)) e

  drops : (p : X → Bool) (x : X) (xs : List X) → p x ≡ false → filter p (x ∷ xs) ≡ filter p xs
  drops p x xs e = ap (λ b. cond b (x ∷ filter p xs) (filter p xs)) e

  two_parts : (a b : Bool) → a ≡ false → b ≡ false → (not a && not b) ≡ true
  two_parts a b e k = rw (e, k) refl

  tail_of : (x : X) (xs ys : List X) → x ∷ xs ≡ x ∷ ys → xs ≡ ys
  tail_of x xs ys e = cc

  head_same : (x y : X) (xs ys : List X) → x ∷ xs ≡ y ∷ ys → x ≡ y
  head_same x y xs ys e = cc

  unique : (xs ys : List X) → Rises xs → Rises ys → ((x : X) → filter (ties lt x) xs ≡ filter (ties lt x) ys) → xs ≡ ys
  unique [] [] r s f = refl
  unique [] (b ∷ bs) r s f = let e = f b ∙ keeps (ties lt b) b bs (ties_same b) in cc
  unique (a ∷ as') [] r s f = let e = sym (f a) ∙ keeps (ties lt a) a as' (ties_same a) in cc
  unique (a ∷ as') (b ∷ bs) r s f =
      let ab : lt a b ≡ false = head_of (AtLeast b) (ties lt a) (b ∷ bs) a (filter (ties lt a) as') (itself b, s.0) (sym (f a) ∙ keeps (ties lt a) a as' (ties_same a)) in
      let ba : lt b a ≡ false = head_of (AtLeast a) (ties lt b) (a ∷ as') b (filter (ties lt b) bs) (itself a, r.0) (f b ∙ keeps (ties lt b) b bs (ties_same b)) in
      let same : a ≡ b = head_same a b (filter (ties lt a) as') (filter (ties lt a) bs)
      (sym (keeps (ties lt a) a as' (ties_same a)) ∙ f a ∙ keeps (ties lt a) b bs (two_parts (lt a b) (lt b a) ab ba)) in
      ap (λ zs. a ∷ zs) (unique as' bs r.1 s.1 (λ x. rest x (subst (λ c. filter (ties lt x) (a ∷ as') ≡ filter (ties lt x) (c ∷ bs)) (sym same) (f x)) (ties lt x a) refl))
      ∙ ap (λ c. c ∷ bs) same
    where
      rest : (x : X) → filter (ties lt x) (a ∷ as') ≡ filter (ties lt x) (a ∷ bs) → (t : Bool) → ties lt x a ≡ t → filter (ties lt x) as' ≡ filter (ties lt x) bs
      rest x e true k = tail_of a (filter (ties lt x) as') (filter (ties lt x) bs) (sym (keeps (ties lt x) a as' k) ∙ e ∙ keeps (ties lt x) a bs k)
      rest x e false k = sym (drops (ties lt x) a as' k) ∙ e ∙ drops (ties lt x) a bs k

  -- ---- the sort by insertion is in order and keeps ties

  each_map : (P Q : X → Type 0) → ((x : X) → P x → Q x) → (xs : List X) → Each P xs → Each Q xs
  each_map P Q f [] e = tt
  each_map P Q f (x ∷ xs) e = (f x e.0, each_map P Q f xs e.1)

  each_inserted : (P : X → Type 0) (x : X) (xs : List X) → P x → Each P xs → Each P (inserted lt x xs)
  each_inserted P x [] h e = (h, tt)
  each_inserted P x (y ∷ ys) h e = on (lt y x) (each_inserted P x ys h e.1)
    where
      on : (b : Bool) → Each P (inserted lt x ys) → Each P (insert_at lt b x y ys (inserted lt x ys))
      on true rest = (e.0, rest)
      on false rest = (h, e)

  rises_inserted : (x : X) (xs : List X) → Rises xs → Rises (inserted lt x xs)
  rises_inserted x [] r = (tt, tt)
  rises_inserted x (y ∷ ys) r = on (lt y x) refl (rises_inserted x ys r.1)
    where
      on : (b : Bool) → lt y x ≡ b → Rises (inserted lt x ys) → Rises (insert_at lt b x y ys (inserted lt x ys))
      on true e rest = (each_inserted (AtLeast y) x ys (o.one_way y x e) r.0, rest)
      on false e rest = ((e, each_map (AtLeast y) (AtLeast x) (λ z k. o.chain z y x k e) ys r.0), r)

  pub rises_sorted : (xs : List X) → Rises (sorted lt xs)
  rises_sorted [] = tt
  rises_sorted (x ∷ xs) = rises_inserted x (sorted lt xs) (rises_sorted xs)

  both_of : (a b : Bool) → (not a && not b) ≡ true → (a ≡ false) × (b ≡ false)
  both_of true b e = cc
  both_of false true e = cc
  both_of false false e = (refl, refl)

  -- two that tie with x tie with each other
  no_less : (x y z : X) → ties lt x y ≡ true → ties lt x z ≡ true → lt z y ≡ true → ⊥
  no_less x y z e k l =
      let p = both_of (lt x y) (lt y x) e in
      let q = both_of (lt x z) (lt z x) k in
      let n : lt z y ≡ false = o.chain z x y q.1 p.0 in cc

  keeps_ties : (x y : X) (ys : List X) → filter (ties lt x) (inserted lt y ys) ≡ filter (ties lt x) (y ∷ ys)
  keeps_ties x y [] = refl
  keeps_ties x y (z ∷ zs) = on (lt z y) refl (keeps_ties x y zs)
    where
      moved : (s t : Bool) → ties lt x z ≡ s → ties lt x y ≡ t → lt z y ≡ true → filter (ties lt x) (z ∷ y ∷ zs) ≡ filter (ties lt x) (y ∷ z ∷ zs)
      moved true true e k l = absurd (no_less x y z k e l)
      moved true false e k l = keeps (ties lt x) z (y ∷ zs) e ∙ ap (λ ws. z ∷ ws) (drops (ties lt x) y zs k) ∙ sym (drops (ties lt x) y (z ∷ zs) k ∙ keeps (ties lt x) z zs e)
      moved false t e k l = drops (ties lt x) z (y ∷ zs) e ∙ sym (ap (λ ws. cond (ties lt x y) (y ∷ ws) ws) (drops (ties lt x) z zs e))

      on : (b : Bool) → lt z y ≡ b → filter (ties lt x) (inserted lt y zs) ≡ filter (ties lt x) (y ∷ zs) → filter (ties lt x) (insert_at lt b y z zs (inserted lt y zs)) ≡ filter (ties lt x) (y ∷ z ∷ zs)
      on true l rest = ap (λ ws. cond (ties lt x z) (z ∷ ws) ws) rest ∙ moved (ties lt x z) (ties lt x y) refl refl l
      on false l rest = refl

  pub ties_sorted : (x : X) (xs : List X) → filter (ties lt x) (sorted lt xs) ≡ filter (ties lt x) xs
  ties_sorted x [] = refl
  ties_sorted x (y ∷ ys) = keeps_ties x y (sorted lt ys) ∙ ap (λ ws. cond (ties lt x y) (y ∷ ws) ws) (ties_sorted x ys)

  -- ---- from what std's sort ensures

  each_from : (x : X) (xs : List X) → ((k : ℕ) (d : X) → k < length xs → lt (get_or xs k d) x ≡ false) → Each (AtLeast x) xs
  each_from x [] h = tt
  each_from x (y ∷ ys) h = (h 0 y (omega arith), each_from x ys (λ k d l. h (suc k) d (omega arith)))

  rises_from : (xs : List X) → ((i j : ℕ) (d : X) → i ≤ j → j < length xs → lt (get_or xs j d) (get_or xs i d) ≡ false) → Rises xs
  rises_from [] h = tt
  rises_from (x ∷ xs) h = (
    each_from x xs (λ k d l. h 0 (suc k) d (omega arith) (omega arith)),
    rises_from xs (λ i j d l m. h (suc i) (suc j) d (omega arith) (omega arith)),
  )

  pub is_sorted : (xs ys : List X) → IsSortedBy lt ys → IsStableBy lt xs ys → ys ≡ sorted lt xs
  is_sorted xs ys up stable = unique ys (sorted lt xs) (rises_from ys (sorted_far lt o ys up)) (rises_sorted xs) (λ x. stable x ∙ sym (ties_sorted x xs))
