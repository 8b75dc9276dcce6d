-- Items at places, and each place once: what a loop over the places has made so far, and then the rest.
use Rattle.std.proofs.Common.{◌≡◌, ℕ, ◌+◌, ◌-◌, ◌<◌, ◌≤◌, length, drop, get_or, Bool, true, false, not, Option, Some, None, List, [], ◌∷◌, ◌++◌, map, refl, ap, subst, sym, ◌∙◌, append_assoc, append-nil, eqb-true}
use Rattle.std.specs.Prelude.{slice_get, ◌==◌, ◌||◌}
use Rattle.std.specs.List.{list_any}
use Rattle.std.proofs.lemmas.List.{drop_more, drop_all}
use Rattle.std.proofs.lemmas.List.Folds.{list_any-append}
use Rattle.value_types.specs.declared.value.Value.{Value}
use Rattle.dataset_types.specs.declared.row.Marked.{Marked}
use Rattle.relations.specs.Conditions.{kept_if}
use Rattle.std.specs.List.{cons_option}
use Rattle.rel_group.specs.Keys.{items_at, once_after}
use Rattle.rel_group.specs.Calls.{is_marked}

-- ---- the items at places

module _ {A : Type 0} (items : List A) where
  next_places : (ps : List ℕ) (i p : ℕ) → i < length ps → p ≡ get_or ps i p →
      items_at (drop i ps) items ≡ cons_option (slice_get items (p - 1)) (items_at (drop (i + 1) ps) items)
  next_places ps i p h e = ap (λ z. items_at z items) (drop_more ps i p h) ∙ ap (λ q. cons_option (slice_get items (q - 1)) (items_at (drop (i + 1) ps) items)) (sym e)

  pub placed_at : (all : List A) (ps : List ℕ) (i p : ℕ) (x : A) → i < length ps → p ≡ get_or ps i p → slice_get items (p - 1) ≡ Some x →
      all ++ items_at (drop i ps) items ≡ (all ++ x ∷ []) ++ items_at (drop (i + 1) ps) items
  placed_at all ps i p x h e k =
      ap (λ z. all ++ z) (next_places ps i p h e ∙ ap (λ o. cons_option o (items_at (drop (i + 1) ps) items)) k) ∙ rw append_assoc refl

  pub none_at : (all : List A) (ps : List ℕ) (i p : ℕ) → i < length ps → p ≡ get_or ps i p → slice_get items (p - 1) ≡ None →
      all ++ items_at (drop i ps) items ≡ all ++ items_at (drop (i + 1) ps) items
  none_at all ps i p h e k = ap (λ z. all ++ z) (next_places ps i p h e ∙ ap (λ o. cons_option o (items_at (drop (i + 1) ps) items)) k)

  pub all_placed : (all : List A) (ps : List ℕ) (i : ℕ) → length ps ≤ i → all ++ items_at (drop i ps) items ≡ all
  all_placed all ps i h = ap (λ z. all ++ items_at z items) (drop_all i ps h) ∙ append-nil all

pub ruleset placing = (placed_at, none_at, all_placed)

-- the values of the items at places
module _ (values : List Marked) where
  pub value_at : (all : List Value) (ps : List ℕ) (i p : ℕ) (m : Marked) → i < length ps → p ≡ get_or ps i p → slice_get values (p - 1) ≡ Some m →
      all ++ map (λ m. m.value) (items_at (drop i ps) values) ≡ (all ++ m.value ∷ []) ++ map (λ m. m.value) (items_at (drop (i + 1) ps) values)
  value_at all ps i p m h e k =
      ap (λ z. all ++ map (λ m. m.value) z) (next_places values ps i p h e ∙ ap (λ o. cons_option o (items_at (drop (i + 1) ps) values)) k) ∙ rw append_assoc refl

  pub no_value_at : (all : List Value) (ps : List ℕ) (i p : ℕ) → i < length ps → p ≡ get_or ps i p → slice_get values (p - 1) ≡ None →
      all ++ map (λ m. m.value) (items_at (drop i ps) values) ≡ all ++ map (λ m. m.value) (items_at (drop (i + 1) ps) values)
  no_value_at all ps i p h e k =
      ap (λ z. all ++ map (λ m. m.value) z) (next_places values ps i p h e ∙ ap (λ o. cons_option o (items_at (drop (i + 1) ps) values)) k)

  pub all_read : (all : List Value) (ps : List ℕ) (i : ℕ) → length ps ≤ i → all ++ map (λ m. m.value) (items_at (drop i ps) values) ≡ all
  all_read all ps i h = ap (λ z. all ++ map (λ m. m.value) (items_at z values)) (drop_all i ps h) ∙ append-nil all

pub ruleset reading = (value_at, no_value_at, all_read)

-- whether an item at one of the places is marked
pub marked_places : (ps : List ℕ) (values : List Marked) → list_any (λ p. is_marked (slice_get values (p - 1))) ps ≡ list_any (λ m. m.marked) (items_at ps values)
marked_places [] values = refl
marked_places (p ∷ ps) values = on (slice_get values (p - 1)) (marked_places ps values)
  where
    on : (o : Option Marked) → list_any (λ q. is_marked (slice_get values (q - 1))) ps ≡ list_any (λ m. m.marked) (items_at ps values) →
        (is_marked o || list_any (λ q. is_marked (slice_get values (q - 1))) ps) ≡ list_any (λ m. m.marked) (cons_option o (items_at ps values))
    on None e = e
    on (Some m) e = ap (λ (b : Bool). m.marked || b) e

-- ---- each place once

-- the same places, however often each stands there
abbrev SamePlaces : List ℕ → List ℕ → Type 0
SamePlaces one other = (p : ℕ) → list_any (λ q. q == p) one ≡ list_any (λ q. q == p) other

same_once : {A : Type 0} (one other ps : List ℕ) (items : List A) → SamePlaces one other → once_after one ps items ≡ once_after other ps items
same_once one other [] items same = refl
same_once one other (p ∷ ps) [] same = refl
same_once one other (p ∷ ps) (x ∷ xs) same =
    let more = same_once (one ++ p ∷ []) (other ++ p ∷ []) ps xs (λ r.
    list_any-append (λ q. q == r) one (p ∷ []) ∙ (ap (λ (b : Bool). b || list_any (λ q. q == r) (p ∷ [])) (same r) ∙ sym (list_any-append (λ q. q == r) other (p ∷ [])))) in
    let here = same p in
    λ i. kept_if (not (here i)) x ++ more i

-- a place that stands there already adds none
again : (p r : ℕ) (seen : List ℕ) → list_any (λ q. q == p) seen ≡ true → list_any (λ q. q == r) (seen ++ p ∷ []) ≡ list_any (λ q. q == r) (seen ++ [])
again p r [] h = cc
again p r (s ∷ ss) h = at (s == p) refl h (again p r ss)
  where
    behind : (b : Bool) → (p == r) ≡ b → (b || list_any (λ q. q == r) (ss ++ p ∷ [])) ≡ (b || list_any (λ q. q == r) (ss ++ []))
    behind true e = refl
    behind false e =
        list_any-append (λ q. q == r) ss (p ∷ []) ∙ (ap (λ (b : Bool). list_any (λ q. q == r) ss || (b || false)) e ∙ sym (list_any-append (λ q. q == r) ss []))

    at : (b : Bool) → (s == p) ≡ b → (b || list_any (λ q. q == p) ss) ≡ true →
        (list_any (λ q. q == p) ss ≡ true → list_any (λ q. q == r) (ss ++ p ∷ []) ≡ list_any (λ q. q == r) (ss ++ [])) →
        ((s == r) || list_any (λ q. q == r) (ss ++ p ∷ [])) ≡ ((s == r) || list_any (λ q. q == r) (ss ++ []))
    at true e k rest =
        let one : s ≡ p = eqb-true s p e in
        subst (λ z. ((z == r) || list_any (λ q. q == r) (ss ++ p ∷ [])) ≡ ((z == r) || list_any (λ q. q == r) (ss ++ []))) (sym one) (behind (p == r) refl)
    at false e k rest = ap (λ (b : Bool). (s == r) || b) (rest k)

module _ {A : Type 0} (ps : List ℕ) (items : List A) where
  -- behind places of which each stands there once
  noted : (seen : List ℕ) (p : ℕ) (qs : List ℕ) (xs : List A) →
      once_after (seen ++ p ∷ []) qs xs ≡ once_after (seen ++ kept_if (not (list_any (λ q. q == p) seen)) p) qs xs
  noted seen p qs xs = at (list_any (λ q. q == p) seen) refl
    where
      at : (b : Bool) → list_any (λ q. q == p) seen ≡ b → once_after (seen ++ p ∷ []) qs xs ≡ once_after (seen ++ kept_if (not b) p) qs xs
      at true e = same_once (seen ++ p ∷ []) (seen ++ []) qs xs (λ r. again p r seen e)
      at false e = refl

  next_once : (seen : List ℕ) (i d : ℕ) (x : A) → i < length ps → i < length items → x ≡ get_or items i x →
      once_after seen (drop i ps) (drop i items)
      ≡ kept_if (not (list_any (λ q. q == get_or ps i d) seen)) x ++ once_after (seen ++ get_or ps i d ∷ []) (drop (i + 1) ps) (drop (i + 1) items)
  next_once seen i d x h k is =
      ap (λ z. once_after seen z (drop i items)) (drop_more ps i d h)
      ∙ (ap (λ z. once_after seen (get_or ps i d ∷ drop (i + 1) ps) z) (drop_more items i x k)
      ∙ ap (λ z. kept_if (not (list_any (λ q. q == get_or ps i d) seen)) z ++ once_after (seen ++ get_or ps i d ∷ []) (drop (i + 1) ps) (drop (i + 1) items)) (sym is))

  pub once_more : (all : List A) (seen : List ℕ) (i d : ℕ) (x : A) → i < length ps → i < length items → x ≡ get_or items i x →
      all ++ once_after seen (drop i ps) (drop i items)
      ≡ (all ++ kept_if (not (list_any (λ q. q == get_or ps i d) seen)) x)
      ++ once_after (seen ++ kept_if (not (list_any (λ q. q == get_or ps i d) seen)) (get_or ps i d)) (drop (i + 1) ps) (drop (i + 1) items)
  once_more all seen i d x h k is =
      ap (λ z. all ++ z) (next_once seen i d x h k is
      ∙ ap (λ z. kept_if (not (list_any (λ q. q == get_or ps i d) seen)) x ++ z) (noted seen (get_or ps i d) (drop (i + 1) ps) (drop (i + 1) items)))
      ∙ rw append_assoc refl

  -- no place is left, or no item
  pub once_ended : (all : List A) (seen : List ℕ) (i : ℕ) → length ps ≤ i → all ++ once_after seen (drop i ps) (drop i items) ≡ all
  once_ended all seen i h = ap (λ z. all ++ once_after seen z (drop i items)) (drop_all i ps h) ∙ append-nil all

  no_items : (earlier qs : List ℕ) → once_after {A = A} earlier qs [] ≡ []
  no_items earlier [] = refl
  no_items earlier (q ∷ qs) = refl

  pub once_spent : (all : List A) (seen : List ℕ) (i : ℕ) → length items ≤ i → all ++ once_after seen (drop i ps) (drop i items) ≡ all
  once_spent all seen i h = ap (λ z. all ++ once_after seen (drop i ps) z) (drop_all i items h) ∙ (ap (λ z. all ++ z) (no_items seen (drop i ps)) ∙ append-nil all)

pub ruleset dropping = (once_ended, once_spent)
