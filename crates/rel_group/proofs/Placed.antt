-- Rows put one after another into the lots of their keys make the lots of all keys.
use Rattle.std.proofs.Common.{◌≡◌, ℕ, suc, ◌+◌, ◌<◌, ◌≤◌, Bool, true, false, ◌||◌, Option, Result, Ok, Err, OnOk, List, [], ◌∷◌, ◌++◌, map, cond, length, take, drop, get_or, set, refl, subst, ap, ◌∙◌, sym, inl, inr, append-nil, arith}
use Rattle.std.specs.Prelude.{if◌then◌else◌}
use Rattle.std.specs.List.{list_any, insert}
use Rattle.std.specs.Ordering.{is_gt}
use Rattle.std.specs.declared.cmp.Ordering.{Ordering}
use Rattle.std.specs.declared.cmp.Ordering.TheVariants.{Less, Equal, Greater}
use Rattle.std.proofs.lemmas.List.{drop_more, drop_all, take_more, take_all, length-take-le}
use Rattle.std.proofs.Math.Bool.{or-false, or_assoc}
use Rattle.value_types.specs.Order.{same_key}
use Rattle.value_types.specs.Same.{key_decides}
use Rattle.dataset_types.specs.declared.row.Row.{Row}
use Rattle.relations.specs.Conditions.{kept_if}
use Rattle.relations.proofs.Gathered.{Each}
use Rattle.rel_group.specs.declared.parts.Lot.{Lot}
use Rattle.rel_group.specs.declared.keyed.Keyed.{Keyed}
use Rattle.rel_group.specs.Keys.{key_cmp, put_by, put, ascending, rows_at}
use Rattle.rel_group.specs.Calls.{with_key, keyed_from, all_keyed, lots_of, single, with_row, collected, all_collected, placed_by, placed, lots_before, has_key}
use Rattle.rel_group.proofs.KeyOrder.{Key, key_exact, Below, below_apart, above, not_same, Stands, Ascends, ascends, into_ascending, each_below, same_ascending}
use Rattle.rel_group.proofs.Cuts.{key, no_rows}

-- ---- the place of a key

module _ (k : Key) (gs : List Lot) where
  -- the lot at the place, and those behind it
  next_lot : (i : ℕ) (g : Lot) → i < length gs → lots_before k (drop i gs) ≡ (if is_gt (key_cmp k (get_or gs i g).key) then suc (lots_before k (drop (i + 1) gs)) else 0)
  next_lot i g h = ap (lots_before k) (drop_more gs i g h)

  pub passed : (i : ℕ) (g : Lot) → i < length gs → is_gt (key_cmp k (get_or gs i g).key) ≡ true → i + lots_before k (drop i gs) ≡ (i + 1) + lots_before k (drop (i + 1) gs)
  passed i g h e =
      let n = next_lot i g h ∙ ap (λ b. if b then suc (lots_before k (drop (i + 1) gs)) else 0) e in
      omega (arith, n)

  pub stopped : (i : ℕ) (g : Lot) → i < length gs → is_gt (key_cmp k (get_or gs i g).key) ≡ false → i + lots_before k (drop i gs) ≡ i
  stopped i g h e =
      let n = next_lot i g h ∙ ap (λ b. if b then suc (lots_before k (drop (i + 1) gs)) else 0) e in
      omega (arith, n)

  pub ended : (i : ℕ) → length gs ≤ i → i + lots_before k (drop i gs) ≡ i
  ended i h = let n = ap (lots_before k) (drop_all i gs h) in omega (arith, n)

pub ruleset passing = (passed, stopped, ended)

-- ---- a row at that place

module _ (x : Keyed) where
  is_here : (g : Lot) (gs : List Lot) (o : Ordering) → key_cmp x.key g.key ≡ o →
      (lots_before x.key (g ∷ gs) ≡ (if is_gt o then suc (lots_before x.key gs) else 0)) × (placed (g ∷ gs) x ≡ placed_by o g gs x (placed gs x))
  is_here g gs o e = (ap (λ z. if is_gt z then suc (lots_before x.key gs) else 0) e, ap (λ z. placed_by z g gs x (placed gs x)) e)

  -- no lot has the key, and the row begins one
  pub placed_new : (gs : List Lot) → has_key gs (lots_before x.key gs) x.key ≡ false → placed gs x ≡ insert gs (lots_before x.key gs) (single x)
  placed_new [] h = refl
  placed_new (g ∷ gs) h = on (key_cmp x.key g.key) refl (placed_new gs)
    where
      on : (o : Ordering) → key_cmp x.key g.key ≡ o → (has_key gs (lots_before x.key gs) x.key ≡ false → placed gs x ≡ insert gs (lots_before x.key gs) (single x)) →
          placed (g ∷ gs) x ≡ insert (g ∷ gs) (lots_before x.key (g ∷ gs)) (single x)
      on Less e rest = let p = is_here g gs Less e in p.1 ∙ ap (λ n. insert (g ∷ gs) n (single x)) (sym p.0)
      on Equal e rest =
          let p = is_here g gs Equal e in
          let there : has_key (g ∷ gs) (lots_before x.key (g ∷ gs)) x.key ≡ true = ap (λ n. has_key (g ∷ gs) n x.key) p.0 ∙ (key_decides g.key x.key).1 (sym (key_exact x.key g.key e)) in
          absurd (wrong (sym there ∙ h))
        where
          wrong : true ≡ false → ⊥
          wrong z = cc
      on Greater e rest =
          let p = is_here g gs Greater e in
          let not_there = sym (ap (λ n. has_key (g ∷ gs) n x.key) p.0) ∙ h in
          p.1 ∙ (ap (λ z. g ∷ z) (rest not_there) ∙ ap (λ n. insert (g ∷ gs) n (single x)) (sym p.0))

  -- the lot at the place has the key, and the row is put into it
  pub placed_there : (gs : List Lot) (d : Lot) → has_key gs (lots_before x.key gs) x.key ≡ true →
      placed gs x ≡ set gs (lots_before x.key gs) (with_row (get_or gs (lots_before x.key gs) d) x)
  placed_there [] d h = cc
  placed_there (g ∷ gs) d h = on (key_cmp x.key g.key) refl (placed_there gs d)
    where
      on : (o : Ordering) → key_cmp x.key g.key ≡ o →
          (has_key gs (lots_before x.key gs) x.key ≡ true → placed gs x ≡ set gs (lots_before x.key gs) (with_row (get_or gs (lots_before x.key gs) d) x)) →
          placed (g ∷ gs) x ≡ set (g ∷ gs) (lots_before x.key (g ∷ gs)) (with_row (get_or (g ∷ gs) (lots_before x.key (g ∷ gs)) d) x)
      on Less e rest =
          let p = is_here g gs Less e in
          absurd (below_apart x.key g.key e (sym ((key_decides g.key x.key).0 (sym (ap (λ n. has_key (g ∷ gs) n x.key) p.0) ∙ h))))
      on Equal e rest = let p = is_here g gs Equal e in subst (λ n. placed (g ∷ gs) x ≡ set (g ∷ gs) n (with_row (get_or (g ∷ gs) n d) x)) (sym p.0) p.1
      on Greater e rest =
          let p = is_here g gs Greater e in
          let there = sym (ap (λ n. has_key (g ∷ gs) n x.key) p.0) ∙ h in
          subst (λ n. placed (g ∷ gs) x ≡ set (g ∷ gs) n (with_row (get_or (g ∷ gs) n d) x)) (sym p.0) (p.1 ∙ ap (λ z. g ∷ z) (rest there))

  -- what the code leaves in these two cases
  pub put_there : (gs : List Lot) (n : ℕ) (g new : Lot) → n ≡ lots_before x.key gs → has_key gs n x.key ≡ true → g ≡ get_or gs n g → new ≡ with_row g x →
      set gs n new ≡ placed gs x
  put_there gs n g new place there is e =
      ap (set gs n) (e ∙ ap (λ z. with_row z x) is)
      ∙ (ap (λ m. set gs m (with_row (get_or gs m g) x)) place
      ∙ sym (placed_there gs g (ap (λ m. has_key gs m x.key) (sym place) ∙ there)))

  pub put_new : (gs : List Lot) (n : ℕ) (new : Lot) → n ≡ lots_before x.key gs → has_key gs n x.key ≡ false → new ≡ single x → insert gs n new ≡ placed gs x
  put_new gs n new place none e =
      ap (insert gs n) e ∙ (ap (λ m. insert gs m (single x)) place ∙ sym (placed_new gs (ap (λ m. has_key gs m x.key) (sym place) ∙ none)))

-- a place is within the list, or behind it
pub place_fits : (k : Key) (gs : List Lot) → lots_before k gs ≤ length gs
place_fits k [] = omega arith
place_fits k (g ∷ gs) = on (is_gt (key_cmp k g.key)) (place_fits k gs)
  where
    on : (b : Bool) → lots_before k gs ≤ length gs → (if b then suc (lots_before k gs) else 0) ≤ suc (length gs)
    on true h = omega (arith, h)
    on false h = omega arith

pub after_ok : {T E P Q : Type 0} (r : Result T E) → (P → Q) → OnOk r P → OnOk r Q
after_ok (Ok x) f p = f p
after_ok (Err e) f p = p

-- ---- the lots of one row more

module _ (x : Keyed) where
  rows_last : (xs : List Keyed) (l : Key) → rows_at key (xs ++ x ∷ []) l ≡ rows_at key xs l ++ kept_if (same_key l x.key) x
  rows_last [] l = on (same_key l x.key)
    where
      on : (b : Bool) → cond b (x ∷ []) [] ≡ kept_if b x
      on true = refl
      on false = refl
  rows_last (y ∷ ys) l = on (same_key l y.key) (rows_last ys l)
    where
      on : (b : Bool) → rows_at key (ys ++ x ∷ []) l ≡ rows_at key ys l ++ kept_if (same_key l x.key) x →
          cond b (y ∷ rows_at key (ys ++ x ∷ []) l) (rows_at key (ys ++ x ∷ []) l) ≡ cond b (y ∷ rows_at key ys l) (rows_at key ys l) ++ kept_if (same_key l x.key) x
      on true e = ap (λ z. y ∷ z) e
      on false e = e

  any_last : (rs : List Keyed) → list_any (λ y. y.certain) (rs ++ x ∷ []) ≡ list_any (λ y. y.certain) rs || x.certain
  any_last [] = or-false x.certain
  any_last (r ∷ rs) = ap (λ (b : Bool). r.certain || b) (any_last rs) ∙ sym (or_assoc r.certain (list_any (λ y. y.certain) rs) x.certain)

  map_last : {A B : Type 0} (f : A → B) (items : List A) (a : A) → map f (items ++ a ∷ []) ≡ map f items ++ f a ∷ []
  map_last f [] a = refl
  map_last f (b ∷ bs) a = ap (λ z. f b ∷ z) (map_last f bs a)

  abbrev of_rows : List Keyed → Key → Lot
  of_rows rs l = record { key = l; sure = list_any (λ y. y.certain) rs; rows = map (λ y. y.row) rs }

  other_key : (xs : List Keyed) (l : Key) → (l ≡ x.key → ⊥) → collected (xs ++ x ∷ []) l ≡ collected xs l
  other_key xs l apart =
      ap (λ rs. of_rows rs l) (rows_last xs l ∙ (ap (λ b. rows_at key xs l ++ kept_if b x) (not_same l x.key apart) ∙ append-nil (rows_at key xs l)))

  of_last : (rs : List Keyed) (l : Key) → of_rows (rs ++ x ∷ []) l ≡ with_row (of_rows rs l) x
  of_last rs l =
      let sure = any_last rs in
      let rows = map_last (λ y. y.row) rs x in
      λ i. record { key = l; sure = sure i; rows = rows i }

  same_one : (xs : List Keyed) (l : Key) → l ≡ x.key → collected (xs ++ x ∷ []) l ≡ with_row (collected xs l) x
  same_one xs l e =
      ap (λ rs. of_rows rs l) (rows_last xs l ∙ ap (λ b. rows_at key xs l ++ kept_if b x) ((key_decides l x.key).1 e))
      ∙ of_last (rows_at key xs l) l

  first_one : (xs : List Keyed) → rows_at key xs x.key ≡ [] → collected (xs ++ x ∷ []) x.key ≡ single x
  first_one xs none =
      same_one xs x.key refl ∙ ap (λ rs. with_row (of_rows rs x.key) x) none

  other_keys : (xs : List Keyed) (ls : List Key) → Each (Below x.key) ls → map (collected (xs ++ x ∷ [])) ls ≡ map (collected xs) ls
  other_keys xs [] e = refl
  other_keys xs (l ∷ ls) e =
      let one = other_key xs l (λ s. below_apart x.key l e.0 (sym s)) in
      let more = other_keys xs ls e.1 in
      λ i. one i ∷ more i

  put_collected : (xs : List Keyed) (ls : List Key) → Ascends ls → ((Stands x.key ls → ⊥) → rows_at key xs x.key ≡ []) →
      map (collected (xs ++ x ∷ [])) (put x.key ls) ≡ placed (map (collected xs) ls) x
  put_collected xs [] a none = let first = first_one xs (none (λ s. absurd s)) in λ i. first i ∷ []
  put_collected xs (l ∷ ls) a none = on (key_cmp x.key l) refl (put_collected xs ls a.1)
    where
      on : (o : Ordering) → key_cmp x.key l ≡ o →
          (((Stands x.key ls → ⊥) → rows_at key xs x.key ≡ []) → map (collected (xs ++ x ∷ [])) (put x.key ls) ≡ placed (map (collected xs) ls) x) →
          map (collected (xs ++ x ∷ [])) (put_by o x.key l ls (put x.key ls)) ≡ placed_by o (collected xs l) (map (collected xs) ls) x (placed (map (collected xs) ls) x)
      on Less e rest =
          let apart : Stands x.key (l ∷ ls) → ⊥ = λ s. elim s [
            | inl h ↦ below_apart x.key l e (sym h)
            | inr h ↦ absent l ls e a.0 h
          ] in
          let first = first_one xs (none apart) in
          let more = other_keys xs (l ∷ ls) (e, each_below x.key l ls e a.0) in
          λ i. first i ∷ more i
        where
          absent : (m : Key) (ms : List Key) → Below x.key m → Each (Below m) ms → Stands x.key ms → ⊥
          absent m [] b f s = absurd s
          absent m (n ∷ ms) b f s = elim s [
            | inl h ↦ below_apart x.key n (each_below x.key m (n ∷ ms) b f).0 (sym h)
            | inr h ↦ absent m ms b f.1 h
          ]
      on Equal e rest =
          let s = key_exact x.key l e in
          let one = same_one xs l (sym s) in
          let more = other_keys xs ls (subst (λ z. Each (Below z) ls) (sym s) a.0) in
          λ i. one i ∷ more i
      on Greater e rest =
          let one = other_key xs l (λ s. below_apart l x.key (above x.key l e) s) in
          let more = rest (λ h. none (λ s. elim s [ inl t ↦ below_apart l x.key (above x.key l e) t | inr t ↦ h t ])) in
          λ i. one i ∷ more i

  into_last : (xs : List Keyed) (k : Key) → Stands k (x.key ∷ map key xs) → Stands k (map key (xs ++ x ∷ []))
  into_last [] k s = s
  into_last (y ∷ ys) k s = elim s [
    | inl e ↦ inr (into_last ys k (inl e))
    | inr h ↦ elim h [ inl e ↦ inl e | inr t ↦ inr (into_last ys k (inr t)) ]
  ]

  from_last : (xs : List Keyed) (k : Key) → Stands k (map key (xs ++ x ∷ [])) → Stands k (x.key ∷ map key xs)
  from_last [] k s = s
  from_last (y ∷ ys) k s = elim s [
    | inl e ↦ inr (inl e)
    | inr h ↦ elim (from_last ys k h) [ inl e ↦ inl e | inr t ↦ inr (inr t) ]
  ]

  -- the lots of rows and of one row more
  pub collected_last : (xs : List Keyed) → all_collected (xs ++ x ∷ []) ≡ placed (all_collected xs) x
  collected_last xs =
      ap (map (collected (xs ++ x ∷ []))) (same_ascending (map key (xs ++ x ∷ [])) (x.key ∷ map key xs) (from_last xs) (into_last xs))
      ∙ put_collected xs (ascending (map key xs)) (ascends (map key xs)) (λ h. no_rows xs x.key (λ s. h (into_ascending (map key xs) x.key s)))

-- ---- the loop over the rows

module _ (keys : Option (List ℕ)) where
  keyed_last : (n : ℕ) (rows : List Row) (r : Row) → keyed_from keys n (rows ++ r ∷ []) ≡ keyed_from keys n rows ++ with_key keys (n + length rows) r ∷ []
  keyed_last n [] r = let e : n ≡ n + 0 = omega arith in ap (λ m. with_key keys m r ∷ []) e
  keyed_last n (x ∷ xs) r =
      let e : (n + 1) + length xs ≡ n + suc (length xs) = omega arith in
      ap (λ z. with_key keys n x ∷ z) (keyed_last (n + 1) xs r ∙ ap (λ m. keyed_from keys (n + 1) xs ++ with_key keys m r ∷ []) e)

  pub placed_more : (rows : List Row) (i : ℕ) (r : Row) → i < length rows → r ≡ get_or rows i r →
      placed (lots_of keys (take i rows)) (with_key keys i r) ≡ lots_of keys (take (i + 1) rows)
  placed_more rows i r h e =
      let before = take i rows in
      let count : length before ≡ i = length-take-le i rows (omega (arith, h)) in
      let place : i ≡ 0 + length before = omega (arith, count) in
      sym (collected_last (with_key keys i r) (all_keyed keys before))
      ∙ (ap (λ m. all_collected (all_keyed keys before ++ with_key keys m r ∷ [])) place
      ∙ (ap all_collected (sym (keyed_last 0 before r))
      ∙ ap (lots_of keys) (ap (λ z. before ++ z ∷ []) e ∙ sym (take_more rows i r h))))

  pub all_placed : (rows : List Row) (i : ℕ) → length rows ≤ i → lots_of keys (take i rows) ≡ lots_of keys rows
  all_placed rows i h = ap (lots_of keys) (take_all i rows h)

pub ruleset placing = (placed_more, all_placed)
