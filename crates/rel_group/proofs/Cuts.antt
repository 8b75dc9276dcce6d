-- Rows in ascending order of key, cut where the key changes, are the lots of the keys.
use Rattle.std.proofs.Common.{◌≡◌, Bool, true, false, ◌||◌, Option, Some, None, List, [], ◌∷◌, ◌++◌, map, cond, refl, subst, ap, ◌∙◌, sym, inl, inr, append_assoc, append-nil}
use Rattle.std.specs.Prelude.{if◌then◌else◌}
use Rattle.std.specs.List.{list_any}
use Rattle.std.specs.Ordering.{is_lt}
use Rattle.std.specs.Cmp.{IsStrictWeakOrder}
use Rattle.std.specs.declared.cmp.Ordering.{Ordering}
use Rattle.std.specs.declared.cmp.Ordering.TheVariants.{Less, Equal, Greater}
use Rattle.std.proofs.lemmas.List.Sorted.{ranks_by}
use Rattle.std.proofs.Math.Bool.{or-false, or_assoc}
use Rattle.value_types.specs.Order.{same_key}
use Rattle.value_types.specs.Same.{key_decides}
use Rattle.relations.proofs.Gathered.{Each}
use Rattle.rel_ops.specs.Sorted.{insert_at, inserted, sorted}
use Rattle.rel_ops.proofs.Stable.{Rises, AtLeast, rises_sorted}
use Rattle.rel_group.specs.declared.parts.Lot.{Lot}
use Rattle.rel_group.specs.declared.keyed.Keyed.{Keyed}
use Rattle.rel_group.specs.Keys.{key_cmp, put_by, put, ascending, rows_at}
use Rattle.rel_group.specs.Calls.{single, with_row, taken_by, taken, finished, cut_from, cut, collected, all_collected, key_lt}
use Rattle.rel_group.proofs.KeyOrder.{Key, key_exact, key_total, key_itself, Below, below_apart, above, not_both, not_same, Stands, Ascends, each_at, ascends, into_ascending, from_ascending, same_ascending}

-- ---- the loop

-- the lots that are done, and then what the last one and the rest give
unfoldable pub cut_more : List Lot → Option Lot → List Keyed → List Lot
cut_more done None xs = done ++ cut xs
cut_more done (Some g) xs = done ++ cut_from g xs

pub cut_begun : (xs : List Keyed) → cut xs ≡ cut_more [] None xs
unfolding cut_more
cut_begun xs = refl

pub cut_went_on : (done : List Lot) (last : Option Lot) (xs rest : List Keyed) (x : Keyed) → xs ≡ x ∷ rest →
    cut_more done last xs ≡ cut_more (taken done last x).0 (Some (taken done last x).1) rest
unfolding cut_more
cut_went_on done None xs rest x e = rw e refl
cut_went_on done (Some g) xs rest x e = rw e (on (same_key g.key x.key))
  where
    on : (b : Bool) → done ++ (if b then cut_from (with_row g x) rest else g ∷ cut_from (single x) rest)
        ≡ (taken_by b done g x).0 ++ cut_from (taken_by b done g x).1 rest
    on true = refl
    on false = rw append_assoc refl

pub cut_took : (done new : List Lot) (last : Option Lot) (g : Lot) (xs rest : List Keyed) (x : Keyed) → xs ≡ x ∷ rest → (new, g) ≡ taken done last x →
    cut_more done last xs ≡ cut_more new (Some g) rest
cut_took done new last g xs rest x e k =
    cut_went_on done last xs rest x e ∙ ap (λ (p : List Lot × Lot). cut_more p.0 (Some p.1) rest) (sym k)

pub cut_closed : (done : List Lot) (last : Option Lot) (xs : List Keyed) → xs ≡ [] → cut_more done last xs ≡ finished done last
unfolding cut_more
cut_closed done None xs e = rw (e, append-nil) refl
cut_closed done (Some g) xs e = rw e refl

pub ruleset cutting = (cut_begun, cut_took)

-- ---- cutting from the front

abbrev pub key : Keyed → Key
key x = x.key

-- two lots of one key as one
abbrev merged : Lot → Lot → Lot
merged g h = record { key = g.key; sure = g.sure || h.sure; rows = g.rows ++ h.rows }

abbrev joined_by : Bool → Lot → Lot → List Lot → List Lot
joined_by true g h hs = merged g h ∷ hs
joined_by false g h hs = g ∷ h ∷ hs

-- a lot before others, as one with the first of them where the key is the same
abbrev joined : Lot → List Lot → List Lot
joined g [] = g ∷ []
joined g (h ∷ hs) = joined_by (same_key g.key h.key) g h hs

after : {A : Type 0} (xs : List A) (y : A) (zs : List A) → (xs ++ y ∷ []) ++ zs ≡ xs ++ (y ∷ zs)
after [] y zs = refl
after (x ∷ xs) y zs = ap (λ ws. x ∷ ws) (after xs y zs)

cut_joins : (g : Lot) (xs : List Keyed) → cut_from g xs ≡ joined g (cut xs)
cut_joins g [] = refl
cut_joins g (x ∷ xs) =
    ap (λ z. if same_key g.key x.key then z else g ∷ cut_from (single x) xs) (cut_joins (with_row g x) xs)
    ∙ (ap (λ z. if same_key g.key x.key then joined (with_row g x) (cut xs) else g ∷ z) (cut_joins (single x) xs)
    ∙ (at (same_key g.key x.key) refl (cut xs) ∙ ap (joined g) (sym (cut_joins (single x) xs))))
  where
    two : (b c : Bool) (h : Lot) (hs : List Lot) → same_key g.key x.key ≡ b → same_key x.key h.key ≡ c →
        (if b then joined (with_row g x) (h ∷ hs) else g ∷ joined_by c (single x) h hs) ≡ joined g (joined_by c (single x) h hs)
    two true true h hs e k =
        let s = (key_decides g.key x.key).0 e in
        rw (e, ap (λ z. same_key z h.key) s ∙ k) (λ i. record { key = g.key; sure = or_assoc g.sure x.certain h.sure i; rows = after g.rows x.row h.rows i } ∷ hs)
    two true false h hs e k = let s = (key_decides g.key x.key).0 e in rw (e, ap (λ z. same_key z h.key) s ∙ k) refl
    two false true h hs e k = rw e refl
    two false false h hs e k = rw e refl

    at : (b : Bool) → same_key g.key x.key ≡ b → (ds : List Lot) → (if b then joined (with_row g x) ds else g ∷ joined (single x) ds) ≡ joined g (joined (single x) ds)
    at true e [] = rw e refl
    at false e [] = rw e refl
    at b e (h ∷ hs) = two b (same_key x.key h.key) h hs e refl

-- ---- the lots of the keys, from the front

rows_of_other : (x : Keyed) (xs : List Keyed) (k : Key) → (k ≡ x.key → ⊥) → rows_at key (x ∷ xs) k ≡ rows_at key xs k
rows_of_other x xs k apart = ap (λ b. cond b (x ∷ rows_at key xs k) (rows_at key xs k)) (not_same k x.key apart)

rows_of_same : (x : Keyed) (xs : List Keyed) (k : Key) → k ≡ x.key → rows_at key (x ∷ xs) k ≡ x ∷ rows_at key xs k
rows_of_same x xs k e = ap (λ b. cond b (x ∷ rows_at key xs k) (rows_at key xs k)) ((key_decides k x.key).1 e)

pub no_rows : (xs : List Keyed) (k : Key) → (Stands k (map key xs) → ⊥) → rows_at key xs k ≡ []
no_rows [] k h = refl
no_rows (x ∷ xs) k h = rows_of_other x xs k (λ e. h (inl (sym e))) ∙ no_rows xs k (λ s. h (inr s))

others : (x : Keyed) (xs : List Keyed) (ls : List Key) → Each (Below x.key) ls → map (collected (x ∷ xs)) ls ≡ map (collected xs) ls
others x xs [] e = refl
others x xs (l ∷ ls) e =
    let same = rows_of_other x xs l (λ s. below_apart x.key l e.0 (sym s)) in
    let rest = others x xs ls e.1 in
    λ i. record { key = l; sure = list_any (λ y. y.certain) (same i); rows = map (λ y. y.row) (same i) } ∷ rest i

-- none of these rows comes before the key
abbrev NoneBefore : Key → List Keyed → Type 0
NoneBefore k = Each (λ y. is_lt (key_cmp y.key k) ≡ false)

not_before : (k l : Key) (xs : List Keyed) → NoneBefore k xs → Stands l (map key xs) → Below l k → ⊥
not_before k l [] e s b = absurd s
not_before k l (x ∷ xs) e s b = elim s [
  | inl h ↦ wrong (sym (ap (λ z. is_lt (key_cmp z k)) h ∙ ap is_lt b) ∙ e.0)
  | inr h ↦ not_before k l xs e.1 h b
]
  where
    wrong : true ≡ false → ⊥
    wrong z = cc

from_front : (x : Keyed) (xs : List Keyed) → NoneBefore x.key xs → all_collected (x ∷ xs) ≡ joined (single x) (all_collected xs)
from_front x xs e = at (ascending (map key xs)) (ascends (map key xs)) refl
  where
    apart : (l : Key) (ls : List Key) → Below x.key l → Each (Below l) ls → ascending (map key xs) ≡ l ∷ ls → Stands x.key (map key xs) → ⊥
    apart l ls b a is s =
        elim (subst (Stands x.key) is (into_ascending (map key xs) x.key s)) [
          | inl h ↦ below_apart x.key l b (sym h)
          | inr h ↦ not_both x.key l b (each_at (Below l) ls x.key a h)
        ]

    alone : (Stands x.key (map key xs) → ⊥) → collected (x ∷ xs) x.key ≡ single x
    alone h =
        let same = rows_of_same x xs x.key refl ∙ ap (λ z. x ∷ z) (no_rows xs x.key h) in
        (λ i. record { key = x.key; sure = list_any (λ y. y.certain) (same i); rows = map (λ y. y.row) (same i) })
        ∙ ap (λ b. record { key = x.key; sure = b; rows = x.row ∷ [] }) (or-false x.certain)

    on : (o : Ordering) (l : Key) (ls : List Key) → key_cmp x.key l ≡ o → Ascends (l ∷ ls) → ascending (map key xs) ≡ l ∷ ls →
        map (collected (x ∷ xs)) (put_by o x.key l ls (put x.key ls)) ≡ joined_by (same_key x.key l) (single x) (collected xs l) (map (collected xs) ls)
    on Less l ls c a is =
        rw (not_same x.key l (below_apart x.key l c))
        (let first = alone (apart l ls c a.0 is) in
        let rest = others x xs (l ∷ ls) (c, below_all ls a.0) in
        λ i. first i ∷ rest i)
      where
        below_all : (ms : List Key) → Each (Below l) ms → Each (Below x.key) ms
        below_all [] h = tt
        below_all (m ∷ ms) h = (key_total.trans x.key l m c h.0, below_all ms h.1)
    on Equal l ls c a is =
        let s = key_exact x.key l c in
        rw ((key_decides x.key l).1 s)
        (let same = rows_of_same x xs l (sym s) in
        let rest = others x xs ls (subst (λ z. Each (Below z) ls) (sym s) a.0) in
        let back = sym s in
        λ i. record { key = back i; sure = list_any (λ y. y.certain) (same i); rows = map (λ y. y.row) (same i) } ∷ rest i)
    on Greater l ls c a is = absurd (not_before x.key l xs e (from_ascending (map key xs) l (subst (Stands l) (sym is) (inl refl))) (above x.key l c))

    at : (ls : List Key) → Ascends ls → ascending (map key xs) ≡ ls → map (collected (x ∷ xs)) (put x.key ls) ≡ joined (single x) (map (collected xs) ls)
    at [] a is =
        let first = alone (λ s. subst (Stands x.key) is (into_ascending (map key xs) x.key s)) in λ i. first i ∷ []
    at (l ∷ ls) a is = on (key_cmp x.key l) l ls refl a is

pub keyed_rank : IsStrictWeakOrder key_lt
keyed_rank = ranks_by key_total (λ x. x.key)

cut_rising : (xs : List Keyed) → Rises key_lt keyed_rank xs → cut xs ≡ all_collected xs
cut_rising [] r = refl
cut_rising (x ∷ xs) r = cut_joins (single x) xs ∙ (ap (joined (single x)) (cut_rising xs r.1) ∙ sym (from_front x xs (each_of xs r.0)))
  where
    each_of : (ys : List Keyed) → Each (AtLeast key_lt keyed_rank x) ys → NoneBefore x.key ys
    each_of ys e = e

-- ---- sorting leaves the lots

keeps_rows : (x : Keyed) (ys : List Keyed) (k : Key) → rows_at key (inserted key_lt x ys) k ≡ rows_at key (x ∷ ys) k
keeps_rows x [] k = refl
keeps_rows x (y ∷ ys) k = on (key_lt y x) refl (keeps_rows x ys k)
  where
    swapped : (b c : Bool) → same_key k x.key ≡ b → same_key k y.key ≡ c → key_lt y x ≡ true →
        cond c (y ∷ cond b (x ∷ rows_at key ys k) (rows_at key ys k)) (cond b (x ∷ rows_at key ys k) (rows_at key ys k))
        ≡ cond b (x ∷ cond c (y ∷ rows_at key ys k) (rows_at key ys k)) (cond c (y ∷ rows_at key ys k) (rows_at key ys k))
    swapped true true e h l =
        absurd (wrong (sym l ∙ ap is_lt (ap (λ z. key_cmp z x.key) (sym ((key_decides k y.key).0 h) ∙ (key_decides k x.key).0 e) ∙ key_itself x.key)))
      where
        wrong : true ≡ false → ⊥
        wrong z = cc
    swapped true false e h l = refl
    swapped false true e h l = refl
    swapped false false e h l = refl

    on : (b : Bool) → key_lt y x ≡ b → rows_at key (inserted key_lt x ys) k ≡ rows_at key (x ∷ ys) k →
        rows_at key (insert_at key_lt b x y ys (inserted key_lt x ys)) k ≡ rows_at key (x ∷ y ∷ ys) k
    on true l rest = ap (λ z. cond (same_key k y.key) (y ∷ z) z) rest ∙ swapped (same_key k x.key) (same_key k y.key) refl refl l
    on false l rest = refl

rows_sorted : (xs : List Keyed) (k : Key) → rows_at key (sorted key_lt xs) k ≡ rows_at key xs k
rows_sorted [] k = refl
rows_sorted (x ∷ xs) k = keeps_rows x (sorted key_lt xs) k ∙ ap (λ z. cond (same_key k x.key) (x ∷ z) z) (rows_sorted xs k)

into_inserted : (x : Keyed) (ys : List Keyed) (k : Key) → Stands k (key x ∷ map key ys) → Stands k (map key (inserted key_lt x ys))
into_inserted x [] k s = s
into_inserted x (y ∷ ys) k s = on (key_lt y x) (λ h. into_inserted x ys k h)
  where
    on : (b : Bool) → (Stands k (key x ∷ map key ys) → Stands k (map key (inserted key_lt x ys))) → Stands k (map key (insert_at key_lt b x y ys (inserted key_lt x ys)))
    on true rest = elim s [ inl e ↦ inr (rest (inl e)) | inr h ↦ elim h [ inl e ↦ inl e | inr t ↦ inr (rest (inr t)) ] ]
    on false rest = s

from_inserted : (x : Keyed) (ys : List Keyed) (k : Key) → Stands k (map key (inserted key_lt x ys)) → Stands k (key x ∷ map key ys)
from_inserted x [] k s = s
from_inserted x (y ∷ ys) k s = on (key_lt y x) (λ h. from_inserted x ys k h) s
  where
    on : (b : Bool) → (Stands k (map key (inserted key_lt x ys)) → Stands k (key x ∷ map key ys)) → Stands k (map key (insert_at key_lt b x y ys (inserted key_lt x ys))) →
        Stands k (key x ∷ key y ∷ map key ys)
    on true rest h = elim h [ inl e ↦ inr (inl e) | inr t ↦ elim (rest t) [ inl e ↦ inl e | inr u ↦ inr (inr u) ] ]
    on false rest h = h

into_sorted : (xs : List Keyed) (k : Key) → Stands k (map key xs) → Stands k (map key (sorted key_lt xs))
into_sorted [] k s = s
into_sorted (x ∷ xs) k s = into_inserted x (sorted key_lt xs) k (elim s [ inl e ↦ inl e | inr h ↦ inr (into_sorted xs k h) ])

from_sorted : (xs : List Keyed) (k : Key) → Stands k (map key (sorted key_lt xs)) → Stands k (map key xs)
from_sorted [] k s = s
from_sorted (x ∷ xs) k s = elim (from_inserted x (sorted key_lt xs) k s) [ inl e ↦ inl e | inr h ↦ inr (from_sorted xs k h) ]

same_collected : (xs ys : List Keyed) → ((k : Key) → rows_at key xs k ≡ rows_at key ys k) → (ls : List Key) → map (collected xs) ls ≡ map (collected ys) ls
same_collected xs ys e [] = refl
same_collected xs ys e (l ∷ ls) =
    let rest = same_collected xs ys e ls in
    λ i. record { key = l; sure = list_any (λ y. y.certain) (e l i); rows = map (λ y. y.row) (e l i) } ∷ rest i

collected_sorted : (xs : List Keyed) → all_collected (sorted key_lt xs) ≡ all_collected xs
collected_sorted xs =
    ap (map (collected (sorted key_lt xs))) (same_ascending (map key (sorted key_lt xs)) (map key xs) (from_sorted xs) (into_sorted xs))
    ∙ same_collected (sorted key_lt xs) xs (rows_sorted xs) (ascending (map key xs))

-- rows that are sorted by key and cut where it changes are the lots of the keys
pub cut_sorted : (xs : List Keyed) → cut (sorted key_lt xs) ≡ all_collected xs
cut_sorted xs = cut_rising (sorted key_lt xs) (rises_sorted key_lt keyed_rank xs) ∙ collected_sorted xs
