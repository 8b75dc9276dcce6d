-- Lists of the same items in another order.
use Rattle.std.proofs.Common.{◌≡◌, suc, Bool, true, false, ◌||◌, Option, Some, None, List, [], ◌∷◌, ◌++◌, map, filter, cond, length, refl, ap, ◌∙◌, inl, inr}
use Rattle.std.specs.List.{cons_option, filter_map, list_any}
use Rattle.relations.proofs.Gathered.{Each}
use Rattle.rel_group.proofs.KeyOrder.{Key, Stands, Within}

pub data Moved {X : Type 0} : List X → List X → Type 0 where
  stays : (xs : List X) → Moved xs xs
  more : (x : X) (xs ys : List X) → Moved xs ys → Moved (x ∷ xs) (x ∷ ys)
  swaps : (x y : X) (xs : List X) → Moved (x ∷ y ∷ xs) (y ∷ x ∷ xs)
  follows : (xs ys zs : List X) → Moved xs ys → Moved ys zs → Moved xs zs

-- an item behind others comes to the front
pub past : {X : Type 0} (x : X) (us ws : List X) → Moved (x ∷ (us ++ ws)) (us ++ x ∷ ws)
past x [] ws = stays (x ∷ ws)
past x (u ∷ us) ws = follows (x ∷ u ∷ (us ++ ws)) (u ∷ x ∷ (us ++ ws)) (u ∷ (us ++ x ∷ ws)) (swaps x u (us ++ ws)) (more u (x ∷ (us ++ ws)) (us ++ x ∷ ws) (past x us ws))

module _ {X Y : Type 0} (f : X → Y) where
  pub moved_map : (xs ys : List X) → Moved xs ys → Moved (map f xs) (map f ys)
  moved_map _ _ (stays xs) = stays (map f xs)
  moved_map _ _ (more x xs ys m) = more (f x) (map f xs) (map f ys) (moved_map xs ys m)
  moved_map _ _ (swaps x y xs) = swaps (f x) (f y) (map f xs)
  moved_map _ _ (follows xs ys zs m n) = follows (map f xs) (map f ys) (map f zs) (moved_map xs ys m) (moved_map ys zs n)

  -- what is moved of changed items is changed of what is moved
  pub moved_back : (us ys : List Y) → Moved us ys → (xs : List X) → map f xs ≡ us → (zs : List X) × (map f zs ≡ ys) × Moved xs zs
  moved_back _ _ (stays us) xs e = (xs, e, stays xs)
  moved_back _ _ (more u us ys m) [] e = absurd (empty_apart u us e)
    where
      empty_apart : (v : Y) (vs : List Y) → [] ≡ v ∷ vs → ⊥
      empty_apart v vs z = cc
  moved_back _ _ (more u us ys m) (x ∷ xs) e =
      let p = moved_back us ys m xs (tail_is (f x) u (map f xs) us e) in
      (x ∷ p.0, (let h = head_is (f x) u (map f xs) us e in λ i. h i ∷ p.1 i), more x xs p.0 p.2)
    where
      head_is : (a b : Y) (as' bs : List Y) → a ∷ as' ≡ b ∷ bs → a ≡ b
      head_is a b as' bs z = cc

      tail_is : (a b : Y) (as' bs : List Y) → a ∷ as' ≡ b ∷ bs → as' ≡ bs
      tail_is a b as' bs z = cc
  moved_back _ _ (swaps u v us) [] e = absurd (empty_apart u (v ∷ us) e)
    where
      empty_apart : (w : Y) (ws : List Y) → [] ≡ w ∷ ws → ⊥
      empty_apart w ws z = cc
  moved_back _ _ (swaps u v us) (x ∷ []) e = absurd (one_apart (f x) u v us e)
    where
      one_apart : (a b c : Y) (cs : List Y) → a ∷ [] ≡ b ∷ c ∷ cs → ⊥
      one_apart a b c cs z = cc
  moved_back _ _ (swaps u v us) (x ∷ y ∷ xs) e = (y ∷ x ∷ xs, turned (f x) (f y) u v (map f xs) us e, swaps x y xs)
    where
      turned : (a b c d : Y) (as' cs : List Y) → a ∷ b ∷ as' ≡ c ∷ d ∷ cs → b ∷ a ∷ as' ≡ d ∷ c ∷ cs
      turned a b c d as' cs z = cc
  moved_back _ _ (follows us vs ys m n) xs e =
      let p = moved_back us vs m xs e in
      let q = moved_back vs ys n p.0 p.1 in
      (q.0, q.1, follows xs p.0 q.0 p.2 q.2)

module _ {X : Type 0} (p : X → Bool) where
  pub moved_filter : (xs ys : List X) → Moved xs ys → Moved (filter p xs) (filter p ys)
  moved_filter _ _ (stays xs) = stays (filter p xs)
  moved_filter _ _ (more x xs ys m) = on (p x) (moved_filter xs ys m)
    where
      on : (b : Bool) → Moved (filter p xs) (filter p ys) → Moved (cond b (x ∷ filter p xs) (filter p xs)) (cond b (x ∷ filter p ys) (filter p ys))
      on true n = more x (filter p xs) (filter p ys) n
      on false n = n
  moved_filter _ _ (swaps x y xs) = on (p x) (p y)
    where
      on : (b c : Bool) → Moved (cond b (x ∷ cond c (y ∷ filter p xs) (filter p xs)) (cond c (y ∷ filter p xs) (filter p xs)))
          (cond c (y ∷ cond b (x ∷ filter p xs) (filter p xs)) (cond b (x ∷ filter p xs) (filter p xs)))
      on true true = swaps x y (filter p xs)
      on true false = stays (x ∷ filter p xs)
      on false true = stays (y ∷ filter p xs)
      on false false = stays (filter p xs)
  moved_filter _ _ (follows xs ys zs m n) = follows (filter p xs) (filter p ys) (filter p zs) (moved_filter xs ys m) (moved_filter ys zs n)

  or_swap : (a b c : Bool) → a || (b || c) ≡ b || (a || c)
  or_swap true true c = refl
  or_swap true false c = refl
  or_swap false b c = refl

  pub moved_any : (xs ys : List X) → Moved xs ys → list_any p xs ≡ list_any p ys
  moved_any _ _ (stays xs) = refl
  moved_any _ _ (more x xs ys m) = ap (λ b. p x || b) (moved_any xs ys m)
  moved_any _ _ (swaps x y xs) = or_swap (p x) (p y) (list_any p xs)
  moved_any _ _ (follows xs ys zs m n) = moved_any xs ys m ∙ moved_any ys zs n

pub moved_each : {X : Type 0} (P : X → Type 0) (xs ys : List X) → Moved xs ys → Each P xs → Each P ys
moved_each P _ _ (stays xs) e = e
moved_each P _ _ (more x xs ys m) e = (e.0, moved_each P xs ys m e.1)
moved_each P _ _ (swaps x y xs) e = (e.1.0, (e.0, e.1.1))
moved_each P _ _ (follows xs ys zs m n) e = moved_each P ys zs n (moved_each P xs ys m e)

pub moved_length : {X : Type 0} (xs ys : List X) → Moved xs ys → length xs ≡ length ys
moved_length _ _ (stays xs) = refl
moved_length _ _ (more x xs ys m) = ap suc (moved_length xs ys m)
moved_length _ _ (swaps x y xs) = refl
moved_length _ _ (follows xs ys zs m n) = moved_length xs ys m ∙ moved_length ys zs n

pub moved_turn : {X : Type 0} (xs ys : List X) → Moved xs ys → Moved ys xs
moved_turn _ _ (stays xs) = stays xs
moved_turn _ _ (more x xs ys m) = more x ys xs (moved_turn xs ys m)
moved_turn _ _ (swaps x y xs) = swaps y x xs
moved_turn _ _ (follows xs ys zs m n) = follows zs ys xs (moved_turn ys zs n) (moved_turn xs ys m)

-- the same keys
pub moved_within : (ks ls : List Key) → Moved ks ls → Within ks ls
moved_within _ _ (stays ks) k s = s
moved_within _ _ (more x ks ls m) k s = elim s [ inl e ↦ inl e | inr h ↦ inr (moved_within ks ls m k h) ]
moved_within _ _ (swaps x y ks) k s = elim s [ inl e ↦ inr (inl e) | inr h ↦ elim h [ inl e ↦ inl e | inr t ↦ inr (inr t) ] ]
moved_within _ _ (follows ks ls ms m n) k s = moved_within ls ms n k (moved_within ks ls m k s)

-- the keys of items that have one
module _ {X : Type 0} (f : X → Option Key) where
  pub keys_within : (xs ys : List X) → Moved xs ys → Within (filter_map f xs) (filter_map f ys)
  keys_within _ _ (stays xs) k s = s
  keys_within _ _ (more x xs ys m) k s = on (f x) (λ h. keys_within xs ys m k h) s
    where
      on : (o : Option Key) → (Stands k (filter_map f xs) → Stands k (filter_map f ys)) → Stands k (cons_option o (filter_map f xs)) → Stands k (cons_option o (filter_map f ys))
      on None go h = go h
      on (Some l) go h = elim h [ inl e ↦ inl e | inr t ↦ inr (go t) ]
  keys_within _ _ (swaps x y xs) k s = on (f x) (f y) s
    where
      on : (o q : Option Key) → Stands k (cons_option o (cons_option q (filter_map f xs))) → Stands k (cons_option q (cons_option o (filter_map f xs)))
      on None q h = h
      on (Some l) None h = h
      on (Some l) (Some n) h = elim h [ inl e ↦ inr (inl e) | inr t ↦ elim t [ inl e ↦ inl e | inr u ↦ inr (inr u) ] ]
  keys_within _ _ (follows xs ys zs m n) k s = keys_within ys zs n k (keys_within xs ys m k s)
