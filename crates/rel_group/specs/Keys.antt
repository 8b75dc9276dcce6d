-- Keys: the values of a row by which it is grouped.
use Rattle.std.specs.Prelude.{ℕ, ◌-◌, ◌==◌, nat_le, Bool, not, ◌&&◌, Option, Some, None, List, [], ◌∷◌, ◌++◌, length, filter, slice_get}
use Rattle.std.specs.List.{list_all, list_any, filter_map}
use Rattle.std.specs.Cmp.Lexicographic.{slice_cmp}
use Rattle.std.specs.declared.cmp.Ordering.{Ordering}
use Rattle.std.specs.declared.cmp.Ordering.TheVariants.{Less, Equal, Greater}
use Rattle.value_types.specs.declared.value.Value.{Value}
use Rattle.value_types.specs.Order.{value_cmp, same_key}
use Rattle.relations.specs.Conditions.{kept_if}

-- ---- the columns of a key

-- whether a place, which counts from 1, is that of one of these
abbrev pub is_place : {A : Type 0} → List A → ℕ → Bool
is_place items p = nat_le 1 p && nat_le p (length items)

-- whether each is the place of one of these
abbrev pub are_places : {A : Type 0} → List A → List ℕ → Bool
are_places items places = list_all (is_place items) places

-- the items at these places, which count from 1
abbrev pub items_at : {A : Type 0} → List ℕ → List A → List A
items_at places items = filter_map (λ p. slice_get items (p - 1)) places

-- the items of a key: those at its places, or all
abbrev pub key_of : {A : Type 0} → Option (List ℕ) → List A → List A
key_of None items = items
key_of (Some places) items = items_at places items

-- the items beside their places, without those whose place came before
abbrev pub once_after : {A : Type 0} → List ℕ → List ℕ → List A → List A
once_after earlier [] items = []
once_after earlier (p ∷ ps) [] = []
once_after earlier (p ∷ ps) (x ∷ xs) = kept_if (not (list_any (λ q. q == p) earlier)) x ++ once_after (earlier ++ p ∷ []) ps xs

-- the items beside their places, each place once
abbrev pub once : {A : Type 0} → List ℕ → List A → List A
once = once_after []

-- ---- keys in order

-- by the first value that differs
abbrev pub key_cmp : List Value → List Value → Ordering
key_cmp = slice_cmp value_cmp

-- a key that comes before the first of others, is that one, or comes after it
abbrev pub put_by : Ordering → List Value → List Value → List (List Value) → List (List Value) → List (List Value)
put_by Less k l ls rest = k ∷ l ∷ ls
put_by Equal k l ls rest = l ∷ ls
put_by Greater k l ls rest = l ∷ rest

-- a key put in its place among others in ascending order, where it isn't there yet
abbrev pub put : List Value → List (List Value) → List (List Value)
put k [] = k ∷ []
put k (l ∷ ls) = put_by (key_cmp k l) k l ls (put k ls)

-- each key once, in ascending order
abbrev pub ascending : List (List Value) → List (List Value)
ascending [] = []
ascending (k ∷ ks) = put k (ascending ks)

-- the rows of a key, in their order
abbrev pub rows_at : {R : Type 0} → (R → List Value) → List R → List Value → List R
rows_at key rows k = filter (λ r. same_key k (key r)) rows
