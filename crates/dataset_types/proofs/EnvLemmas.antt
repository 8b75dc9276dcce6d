-- Environments: the order of their names, and what a name has after a blur and writes.
use Rattle.std.proofs.Common.{◌≡◌, ℕ, List, [], ◌∷◌, Bool, true, false, Option, Some, None, ◌||◌, if◌then◌else◌, refl, ap, sym, subst, ◌∙◌}
use Rattle.std.specs.declared.cmp.Ordering.{Ordering}
use Rattle.std.specs.declared.cmp.Ordering.TheVariants as order
use Rattle.std.specs.Ordering.{ordering_reverse, is_eq}
use Rattle.std.specs.Str.{bytes_eq}
use Rattle.std.specs.List.{AllByRecursion}
use Rattle.std.specs.List.Sorted.{IsStrictlySortedBy}
use Rattle.std.proofs.lemmas.Bool.{false≢true}
use Rattle.std.proofs.lemmas.Cmp.{nat_list_cmp_total, nat_list_eq_equiv}
use Rattle.std.proofs.lemmas.Map.Text.{is_eq-slice_cmp}
use Rattle.std.proofs.lemmas.Slice.Eq.{bytes_eq-Decides}
use Rattle.dataset_types.specs.Slots.{absent, blurred, find_slot}
use Rattle.dataset_types.specs.Envs.{EnvData, name_cmp, or_else, look, placed, set_slot, set_slots, blur_slots, after_writes, names_of, IsInOrder}
use Rattle.dataset_types.specs.declared.slot.Slot.{Slot}
use Rattle.dataset_types.specs.declared.slot.Named.{Named}

-- the entries come after a name
abbrev After : List ℕ → List Named → Type 0
After name slots = AllByRecursion (λ y. name_cmp name y ≡ order.Less) (names_of slots)

later : (a b : List ℕ) → name_cmp a b ≡ order.Greater → name_cmp b a ≡ order.Less
later a b e = nat_list_cmp_total.antisymm b a ∙ ap ordering_reverse e

After-trans : (a b : List ℕ) (es : List Named) → name_cmp a b ≡ order.Less → After b es → After a es
After-trans a b [] e all = tt
After-trans a b (x ∷ es) e all = (nat_list_cmp_total.trans a b x.name e all.0, After-trans a b es e all.1)

After-same : (a b : List ℕ) (es : List Named) → name_cmp a b ≡ order.Equal → After a es → After b es
After-same a b [] e all = tt
After-same a b (x ∷ es) e all = (sym (nat_list_cmp_total.congr a b x.name e) ∙ all.0, After-same a b es e all.1)

After-placed : (o : Ordering) (a : List ℕ) (new e : Named) (es rest : List Named) → name_cmp a new.name ≡ order.Less → After a (e ∷ es) → After a rest → After a (placed o new e es rest)
After-placed order.Less a new e es rest h all more = (all.0, more)
After-placed order.Equal a new e es rest h all more = (h, all.1)
After-placed order.Greater a new e es rest h all more = (h, all)

After-set : (a : List ℕ) (new : Named) (es : List Named) → name_cmp a new.name ≡ order.Less → After a es → After a (set_slot es new)
After-set a new [] h all = (h, tt)
After-set a new (e ∷ es) h all = After-placed (name_cmp e.name new.name) a new e es (set_slot es new) h all (After-set a new es h all.1)

in_order_cons : (e : Named) (es : List Named) → After e.name es → IsInOrder es → IsInOrder (e ∷ es)
unfolding IsStrictlySortedBy
in_order_cons e es all sorted = (all, sorted)

in_order_head : (e : Named) (es : List Named) → IsInOrder (e ∷ es) → After e.name es
unfolding IsStrictlySortedBy
in_order_head e es sorted = sorted.0

in_order_rest : (e : Named) (es : List Named) → IsInOrder (e ∷ es) → IsInOrder es
unfolding IsStrictlySortedBy
in_order_rest e es sorted = sorted.1

pub in_order_none : IsInOrder []
unfolding IsStrictlySortedBy
in_order_none = tt

in_order_placed : (o : Ordering) (new e : Named) (es : List Named) → name_cmp e.name new.name ≡ o → IsInOrder (e ∷ es) → IsInOrder (set_slot es new) → IsInOrder (placed o new e es (set_slot es new))
in_order_placed order.Less new e es is sorted more = in_order_cons e (set_slot es new) (After-set e.name new es is (in_order_head e es sorted)) more
in_order_placed order.Equal new e es is sorted more = in_order_cons new es (After-same e.name new.name es is (in_order_head e es sorted)) (in_order_rest e es sorted)
in_order_placed order.Greater new e es is sorted more =
    let before : name_cmp new.name e.name ≡ order.Less = later e.name new.name is in
    in_order_cons new (e ∷ es) (before, After-trans new.name e.name es before (in_order_head e es sorted)) sorted

-- setting an entry keeps the order
pub in_order_set : (slots : List Named) (new : Named) → IsInOrder slots → IsInOrder (set_slot slots new)
in_order_set [] new sorted = in_order_cons new [] tt in_order_none
in_order_set (e ∷ es) new sorted = in_order_placed (name_cmp e.name new.name) new e es refl sorted (in_order_set es new (in_order_rest e es sorted))

names-blur : (blur : Bool) (slots : List Named) → names_of (blur_slots blur slots) ≡ names_of slots
names-blur blur [] = refl
names-blur blur (e ∷ es) = ap (λ (ns : List (List ℕ)). e.name ∷ ns) (names-blur blur es)

-- a blur keeps the order
pub in_order_blur : (blur : Bool) (slots : List Named) → IsInOrder slots → IsInOrder (blur_slots blur slots)
in_order_blur blur slots sorted = subst (IsStrictlySortedBy name_cmp) (sym (names-blur blur slots)) sorted

same_name : (a b : List ℕ) → name_cmp a b ≡ order.Equal → a ≡ b
same_name a b e = (bytes_eq-Decides a b).0 (sym (is_eq-slice_cmp a b) ∙ ap is_eq e)

other_name : (a b : List ℕ) (o : Ordering) → name_cmp a b ≡ o → is_eq o ≡ false → bytes_eq a b ≡ false
other_name a b o is e = sym (is_eq-slice_cmp a b) ∙ (ap is_eq is ∙ e)

-- what a name has where another entry stands before the rest
abbrev found : Bool → Slot → Option Slot → Option Slot
found b slot rest = if b then Some slot else rest

-- of two entries of which one alone is of a name, either may come first
found-swap : (b c : Bool) (s t : Slot) (rest : Option Slot) → (b ≡ true → c ≡ false) → found b s (found c t rest) ≡ found c t (found b s rest)
found-swap true true s t rest apart = absurd (false≢true (sym (apart refl)))
found-swap true false s t rest apart = refl
found-swap false c s t rest apart = refl

apart_names : (a b name : List ℕ) → bytes_eq a b ≡ false → bytes_eq a name ≡ true → bytes_eq b name ≡ false
apart_names a b name other here =
    let is : a ≡ name = (bytes_eq-Decides a name).0 here in
    let back : bytes_eq b a ≡ bytes_eq a b = nat_list_eq_equiv.symm b a in
    subst (λ (n : List ℕ). bytes_eq b n ≡ false) is (back ∙ other)

module _ (new : Named) (name : List ℕ) where
  abbrev new_or : Option Slot → Option Slot
  new_or rest = found (bytes_eq new.name name) new.slot rest

  find-placed : (o : Ordering) (e : Named) (es rest : List Named) → name_cmp e.name new.name ≡ o → find_slot rest name ≡ new_or (find_slot es name) → find_slot (placed o new e es rest) name ≡ new_or (find_slot (e ∷ es) name)
  find-placed order.Less e es rest is more =
      rw more (found-swap (bytes_eq e.name name) (bytes_eq new.name name) e.slot new.slot (find_slot es name) (apart_names e.name new.name name (other_name e.name new.name order.Less is refl)))
  find-placed order.Equal e es rest is more =
      subst (λ (n : List ℕ). new_or (find_slot es name) ≡ new_or (found (bytes_eq n name) e.slot (find_slot es name))) (sym (same_name e.name new.name is)) (twice (bytes_eq new.name name) (find_slot es name))
    where
      twice : (b : Bool) (rest : Option Slot) → found b new.slot rest ≡ found b new.slot (found b e.slot rest)
      twice true rest = refl
      twice false rest = refl
  find-placed order.Greater e es rest is more = refl

  -- what a name has after one was set
  pub find_slot-set_slot : (slots : List Named) → find_slot (set_slot slots new) name ≡ new_or (find_slot slots name)
  find_slot-set_slot [] = refl
  find_slot-set_slot (e ∷ es) = find-placed (name_cmp e.name new.name) e es (set_slot es new) refl (find_slot-set_slot es)

abbrev or_some : Option Slot → Option Slot → Option Slot
or_some None b = b
or_some (Some s) b = Some s

found-or_some : (b : Bool) (slot : Slot) (x y : Option Slot) → found b slot (or_some x y) ≡ or_some (found b slot x) y
found-or_some true slot x y = refl
found-or_some false slot x y = refl

-- what a name has after several were set
pub find_slot-set_slots : (slots writes : List Named) (name : List ℕ) → find_slot (set_slots slots writes) name ≡ or_some (find_slot writes name) (find_slot slots name)
find_slot-set_slots slots [] name = refl
find_slot-set_slots slots (w ∷ ws) name =
    find_slot-set_slot w name (set_slots slots ws)
    ∙ (ap (λ (o : Option Slot). found (bytes_eq w.name name) w.slot o) (find_slot-set_slots slots ws name)
    ∙ found-or_some (bytes_eq w.name name) w.slot (find_slot ws name) (find_slot slots name))

or_else-or_some : (o p : Option Slot) (d : Slot) → or_else (or_some o p) d ≡ or_else o (or_else p d)
or_else-or_some None p d = refl
or_else-or_some (Some s) p d = refl

look-blur : (b c : Bool) (slots : List Named) (name : List ℕ) → or_else (find_slot (blur_slots b slots) name) (blurred (b || c) absent) ≡ blurred b (or_else (find_slot slots name) (blurred c absent))
look-blur true c [] name = refl
look-blur false c [] name = refl
look-blur b c (e ∷ es) name = by (bytes_eq e.name name) (look-blur b c es name)
  where
    by : (t : Bool) → or_else (find_slot (blur_slots b es) name) (blurred (b || c) absent) ≡ blurred b (or_else (find_slot es name) (blurred c absent)) → or_else (found t (blurred b e.slot) (find_slot (blur_slots b es) name)) (blurred (b || c) absent) ≡ blurred b (or_else (found t e.slot (find_slot es name)) (blurred c absent))
    by true more = refl
    by false more = more

-- what a name has after a blur and writes
pub look-after_writes : (env : EnvData) (blur : Bool) (writes : List Named) (name : List ℕ) → look (after_writes env blur writes) name ≡ or_else (find_slot writes name) (blurred blur (look env name))
look-after_writes env blur writes name =
    ap (λ (o : Option Slot). or_else o (blurred (blur || env.blurred) absent)) (find_slot-set_slots (blur_slots blur env.slots) writes name)
    ∙ (or_else-or_some (find_slot writes name) (find_slot (blur_slots blur env.slots) name) (blurred (blur || env.blurred) absent)
    ∙ ap (λ (s : Slot). or_else (find_slot writes name) s) (look-blur blur env.blurred env.slots name))

-- writes keep the order
pub in_order_sets : (slots writes : List Named) → IsInOrder slots → IsInOrder (set_slots slots writes)
in_order_sets slots [] sorted = sorted
in_order_sets slots (w ∷ ws) sorted = in_order_set (set_slots slots ws) w (in_order_sets slots ws sorted)
