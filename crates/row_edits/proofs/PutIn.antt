-- Items that are put in at a place, and items that pass a test.
use Rattle.std.proofs.Common.{◌≡◌, ℕ, zero, suc, Bool, true, false, not, ◌||◌, ◌&&◌, List, [], ◌∷◌, length, map, cond, filter, take, refl, ap, inl, inr, ◌⊎◌, arith}
use Rattle.std.specs.Prelude.{IsTrue}
use Rattle.std.specs.List.{list_all, list_any, Contains}
use Rattle.std.proofs.lemmas.List.{map-append}
use Rattle.std.proofs.lemmas.List.Elements.{filter-append, Contains-append_right, Contains-append_cases}
use Rattle.dataset_types.specs.Tables.{Distinct}
use Rattle.dataset_types.proofs.TableLemmas.{Contains-cases, Distinct-append}
use Rattle.relations.proofs.Rules.{all_append}
use Rattle.row_edits.specs.ByText.{put_in}

-- ---- what stands in a list

pub here : {X : Type 0} (y : X) (ys : List X) (x : X) → y ≡ x → Contains (y ∷ ys) x
here y ys x e = (0, omega arith, e)

pub later : {X : Type 0} (y : X) (ys : List X) (x : X) → Contains ys x → Contains (y ∷ ys) x
later y ys x c = Contains-append_right (y ∷ []) ys x c

-- ---- items put in at any place

pub map_put : {X Y : Type 0} (f : X → Y) (n : ℕ) (more xs : List X) → map f (put_in n more xs) ≡ put_in n (map f more) (map f xs)
map_put f zero more xs = map-append f more xs
map_put f (suc n) more [] = map-append f more []
map_put f (suc n) more (x ∷ xs) = ap (λ z. f x ∷ z) (map_put f n more xs)

put_cases : {X : Type 0} (n : ℕ) (more xs : List X) (k : X) → Contains (put_in n more xs) k → Contains more k ⊎ Contains xs k
put_cases zero more xs k c = Contains-append_cases more xs k c
put_cases (suc n) more [] k c = Contains-append_cases more [] k c
put_cases (suc n) more (x ∷ xs) k c = elim (Contains-cases x (put_in n more xs) k c) [
  | inl e ↦ inr (here x xs k e)
  | inr held ↦ elim (put_cases n more xs k held) [ inl m ↦ inl m | inr h ↦ inr (later x xs k h) ]
]

pub put_distinct : {X : Type 0} (n : ℕ) (more xs : List X) → Distinct more → Distinct xs → ((k : X) → Contains more k → Contains xs k → ⊥) → Distinct (put_in n more xs)
put_distinct zero more xs d e apart = Distinct-append more xs d e apart
put_distinct (suc n) more [] d e apart = Distinct-append more [] d e apart
put_distinct (suc n) more (x ∷ xs) d e apart = (
  λ c. elim (put_cases n more xs x c) [ inl m ↦ apart x m (here x xs x refl) | inr h ↦ e.0 h ],
  put_distinct n more xs d e.1 (λ k a b. apart k a (later x xs k b)),
)

pub put_all : {X : Type 0} (p : X → Bool) (n : ℕ) (more xs : List X) → IsTrue (list_all p more) → IsTrue (list_all p xs) → IsTrue (list_all p (put_in n more xs))
put_all p zero more xs e k = all_append p more xs e k
put_all p (suc n) more [] e k = all_append p more [] e k
put_all p (suc n) more (x ∷ xs) e k = on (p x) k (λ h. put_all p n more xs e h)
  where
    on : (b : Bool) → IsTrue (b && list_all p xs) → (IsTrue (list_all p xs) → IsTrue (list_all p (put_in n more xs))) → IsTrue (b && list_all p (put_in n more xs))
    on true h rest = rest h
    on false h rest = h

-- ---- items that pass a test

module _ {X : Type 0} (p : X → Bool) where
  pub filter_put : (n : ℕ) (more xs : List X) → filter p (put_in n more xs) ≡ put_in (length (filter p (take n xs))) (filter p more) (filter p xs)
  filter_put zero more xs = filter-append p more xs
  filter_put (suc n) more [] = filter-append p more []
  filter_put (suc n) more (x ∷ xs) = on (p x) (filter_put n more xs)
    where
      on : (b : Bool) → filter p (put_in n more xs) ≡ put_in (length (filter p (take n xs))) (filter p more) (filter p xs) →
          cond b (x ∷ filter p (put_in n more xs)) (filter p (put_in n more xs))
          ≡ put_in (length (cond b (x ∷ filter p (take n xs)) (filter p (take n xs)))) (filter p more) (cond b (x ∷ filter p xs) (filter p xs))
      on true e = ap (λ z. x ∷ z) e
      on false e = e

  pub all_filter : (q : X → Bool) (xs : List X) → IsTrue (list_all q xs) → IsTrue (list_all q (filter p xs))
  all_filter q [] e = e
  all_filter q (x ∷ xs) e = on (p x) (q x) refl e (λ h. all_filter q xs h)
    where
      on : (b c : Bool) → q x ≡ c → IsTrue (c && list_all q xs) → (IsTrue (list_all q xs) → IsTrue (list_all q (filter p xs))) →
          IsTrue (list_all q (cond b (x ∷ filter p xs) (filter p xs)))
      on true true is h rest = rw is (rest h)
      on false true is h rest = rest h
      on b false is h rest = cc

  -- one test after the other, in either order
  pub filter_swap : (q : X → Bool) (xs : List X) → filter q (filter p xs) ≡ filter p (filter q xs)
  filter_swap q [] = refl
  filter_swap q (x ∷ xs) = on (p x) (q x) refl refl (filter_swap q xs)
    where
      on : (b c : Bool) → p x ≡ b → q x ≡ c → filter q (filter p xs) ≡ filter p (filter q xs) →
          filter q (cond b (x ∷ filter p xs) (filter p xs)) ≡ filter p (cond c (x ∷ filter q xs) (filter q xs))
      on true true e k rest = rw (e, k) (ap (λ z. x ∷ z) rest)
      on true false e k rest = rw k rest
      on false true e k rest = rw e rest
      on false false e k rest = rest

  -- where all pass, all are kept
  pub all_kept : (xs : List X) → list_any (λ x. not (p x)) xs ≡ false → filter p xs ≡ xs
  all_kept [] e = refl
  all_kept (x ∷ xs) e = on (p x) e (λ h. all_kept xs h)
    where
      on : (b : Bool) → (not b || list_any (λ y. not (p y)) xs) ≡ false → (list_any (λ y. not (p y)) xs ≡ false → filter p xs ≡ xs) →
          cond b (x ∷ filter p xs) (filter p xs) ≡ x ∷ xs
      on true h rest = ap (λ z. x ∷ z) (rest h)
      on false h rest = cc

-- items that are changed before a test, or after it
pub filter_map : {X Y : Type 0} (p : X → Bool) (q : Y → Bool) (f : X → Y) → ((x : X) → q (f x) ≡ p x) → (xs : List X) → filter q (map f xs) ≡ map f (filter p xs)
filter_map p q f same [] = refl
filter_map p q f same (x ∷ xs) = rw (same x) (on (p x) (filter_map p q f same xs))
  where
    on : (b : Bool) → filter q (map f xs) ≡ map f (filter p xs) → cond b (f x ∷ filter q (map f xs)) (filter q (map f xs)) ≡ map f (cond b (x ∷ filter p xs) (filter p xs))
    on true e = ap (λ z. f x ∷ z) e
    on false e = e
