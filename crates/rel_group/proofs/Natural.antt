-- Items at places, each place once and rows of a key, where all items are changed.
use Rattle.std.proofs.Common.{◌≡◌, ℕ, zero, suc, ◌-◌, Bool, true, false, not, Option, Some, None, List, [], ◌∷◌, ◌++◌, map, cond, refl, ap, ◌∙◌}
use Rattle.std.specs.Prelude.{slice_get, ◌==◌, option_map}
use Rattle.std.specs.List.{list_any}
use Rattle.value_types.specs.declared.value.Value.{Value}
use Rattle.value_types.specs.Order.{same_key}
use Rattle.relations.specs.Conditions.{kept_if}
use Rattle.std.specs.List.{cons_option}
use Rattle.rel_group.specs.Keys.{items_at, key_of, once_after, rows_at}

module _ {A B : Type 0} (f : A → B) where
  slice_map : (xs : List A) (i : ℕ) → slice_get (map f xs) i ≡ option_map f (slice_get xs i)
  slice_map [] i = refl
  slice_map (x ∷ xs) zero = refl
  slice_map (x ∷ xs) (suc i) = slice_map xs i

  before_map : (o : Option A) (xs : List A) → cons_option (option_map f o) (map f xs) ≡ map f (cons_option o xs)
  before_map None xs = refl
  before_map (Some x) xs = refl

  pub items_map : (ps : List ℕ) (xs : List A) → items_at ps (map f xs) ≡ map f (items_at ps xs)
  items_map [] xs = refl
  items_map (p ∷ ps) xs =
      let one = slice_map xs (p - 1) in
      let more = items_map ps xs in
      (λ i. cons_option (one i) (more i)) ∙ before_map (slice_get xs (p - 1)) (items_at ps xs)

  pub key_map : (keys : Option (List ℕ)) (xs : List A) → key_of keys (map f xs) ≡ map f (key_of keys xs)
  key_map None xs = refl
  key_map (Some ps) xs = items_map ps xs

  pub once_map : (earlier ps : List ℕ) (xs : List A) → once_after earlier ps (map f xs) ≡ map f (once_after earlier ps xs)
  once_map earlier [] xs = refl
  once_map earlier (p ∷ ps) [] = refl
  once_map earlier (p ∷ ps) (x ∷ xs) = on (not (list_any (λ q. q == p) earlier)) (once_map (earlier ++ p ∷ []) ps xs)
    where
      on : (b : Bool) → once_after (earlier ++ p ∷ []) ps (map f xs) ≡ map f (once_after (earlier ++ p ∷ []) ps xs) →
          kept_if b (f x) ++ once_after (earlier ++ p ∷ []) ps (map f xs) ≡ map f (kept_if b x ++ once_after (earlier ++ p ∷ []) ps xs)
      on true e = ap (λ z. f x ∷ z) e
      on false e = e

-- rows that are changed and keep their keys
module _ {R S : Type 0} (f : R → S) (key : R → List Value) (other : S → List Value) (same : (r : R) → other (f r) ≡ key r) where
  pub keys_map : (rows : List R) → map other (map f rows) ≡ map key rows
  keys_map [] = refl
  keys_map (r ∷ rs) = let more = keys_map rs in λ i. same r i ∷ more i

  pub rows_map : (rows : List R) (k : List Value) → rows_at other (map f rows) k ≡ map f (rows_at key rows k)
  rows_map [] k = refl
  rows_map (r ∷ rs) k = ap (λ v. cond (same_key k v) (f r ∷ rows_at other (map f rs) k) (rows_at other (map f rs) k)) (same r) ∙ on (same_key k (key r)) (rows_map rs k)
    where
      on : (b : Bool) → rows_at other (map f rs) k ≡ map f (rows_at key rs k) →
          cond b (f r ∷ rows_at other (map f rs) k) (rows_at other (map f rs) k) ≡ map f (cond b (r ∷ rows_at key rs k) (rows_at key rs k))
      on true e = ap (λ z. f r ∷ z) e
      on false e = e
