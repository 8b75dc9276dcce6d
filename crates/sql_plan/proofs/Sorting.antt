-- Texts that are sorted: two of one name stand beside each other.
use Rattle.std.proofs.Common.{◌≡◌, ℕ, ◌+◌, ◌<◌, List, [], ◌∷◌, map, length, get_or, Bool, true, false, not, ◌||◌, IsPermutation, IsSorted, Bor, Ordering, Less, Equal, Greater, nat_cmp, is_eq, is_lt, bytes_eq, refl, sym, ap, ◌∙◌, arith, true≢false}
use Rattle.std.specs.Bool.{Decides}
use Rattle.std.specs.List.{AllByRecursion, IsDistinct}
use Rattle.std.specs.Ordering.{ordering_reverse}
use Rattle.std.specs.Cmp.Lexicographic.{slice_cmp}
use Rattle.std.proofs.lemmas.Bool.Decides.{Decides-and, Decides-like, same_from_decides}
use Rattle.std.proofs.lemmas.Cmp.{on_total, nat_list_cmp_total, nat_list_eq_equiv}
use Rattle.std.proofs.lemmas.List.{get_or-map, length-map}
use Rattle.std.proofs.lemmas.List.Sorted.{IsPermutation-map, IsPermutation-sym}
use Rattle.std.proofs.lemmas.Map.Keys.{sorted_from_all_adjacent, Less-from_sorted, IsDistinct-from_apart, IsDistinct-IsPermutation, apart_from_distinct}
use Rattle.std.proofs.lemmas.Map.Text.{is_eq-slice_cmp}
use Rattle.expr_meaning.specs.Names.{Name}
use Rattle.sql_plan.specs.Names.{stands_in, are_distinct}

-- ---- names in any order

others_differ : (name : Name) (names : List Name) → Decides (not (stands_in name names)) (AllByRecursion (λ other. bytes_eq name other ≡ false) names)
others_differ name [] = (λ e. tt, λ d. refl)
others_differ name (n ∷ ns) = step (bytes_eq name n) (stands_in name ns) (others_differ name ns)
  where
    step : {P : Type 0} (b rest : Bool) → Decides (not rest) P → Decides (not (b || rest)) ((b ≡ false) × P)
    step true rest d = (λ e. absurd (true≢false (sym e)), λ h. absurd (true≢false h.0))
    step false rest d = (λ e. (refl, d.0 e), λ h. d.1 h.1)

-- tested two by two, exactly the names that differ pass
distinct_differ : (names : List Name) → Decides (are_distinct names) (IsDistinct bytes_eq names)
unfolding IsDistinct
distinct_differ [] = (λ e. tt, λ d. refl)
distinct_differ (n ∷ ns) = Decides-and (not (stands_in n ns)) (are_distinct ns) (others_differ n ns) (distinct_differ ns)

flips : (a b : Name) → bytes_eq a b ≡ bytes_eq b a
flips a b = nat_list_eq_equiv.symm a b

in_any_order : (names others : List Name) → IsPermutation names others → are_distinct others ≡ are_distinct names
in_any_order names others moved =
    same_from_decides (are_distinct others) (are_distinct names)
    (Decides-like (are_distinct others) (IsDistinct-IsPermutation bytes_eq flips others names (IsPermutation-sym names others moved))
    (IsDistinct-IsPermutation bytes_eq flips names others moved) (distinct_differ others))
    (distinct_differ names)

-- ---- texts that are lent

abbrev pub Text : Type 0
Text = Bor (List ℕ)

abbrev pub texts : List Text → List Name
texts ts = map (λ t. t.now) ts

pub texts_in_any_order : (old new : List Text) → IsPermutation old new → are_distinct (texts new) ≡ are_distinct (texts old)
texts_in_any_order old new moved = in_any_order (texts old) (texts new) (IsPermutation-map (λ t. t.now) old new moved)

-- the texts at two places differ
abbrev pub DifferAt : List Text → ℕ → ℕ → Type 0
DifferAt ts i j = (d : Text) → bytes_eq (get_or ts i d).now (get_or ts j d).now ≡ false

all_differ : (ts : List Text) → ((i j : ℕ) → i < j → j < length ts → DifferAt ts i j) → IsDistinct bytes_eq (texts ts)
unfolding IsDistinct
all_differ [] h = tt
all_differ (t ∷ ts) h =
    let all = t ∷ ts in
    IsDistinct-from_apart bytes_eq (texts all) (λ i j d less within.
    let inside : j < length all = omega (arith, length-map all (λ (x : Text). x.now)) in
    let here : i < length all = omega arith in
    ap (λ n. bytes_eq n (get_or (texts all) j d)) (get_or-map (λ x. x.now) all i t d here)
    ∙ (ap (λ n. bytes_eq (get_or all i t).now n) (get_or-map (λ x. x.now) all j t d inside) ∙ h i j less inside t))

-- what the test tells of two places
pub told_apart : (ts : List Text) (i j : ℕ) → are_distinct (texts ts) ≡ true → i < j → j < length ts → DifferAt ts i j
told_apart ts i j e less within d =
    let inside : j < length (texts ts) = omega (arith, length-map ts (λ (x : Text). x.now)) in
    let here : i < length ts = omega arith in
    let apart = apart_from_distinct bytes_eq (texts ts) i j d.now ((distinct_differ (texts ts)).0 e) less inside in
    ap (λ n. bytes_eq n (get_or ts j d).now) (sym (get_or-map (λ x. x.now) ts i d d.now here))
    ∙ (ap (λ n. bytes_eq (get_or (texts ts) i d.now) n) (sym (get_or-map (λ x. x.now) ts j d d.now within)) ∙ apart)

pub false_unless : (b : Bool) → (b ≡ true → false ≡ true) → false ≡ b
false_unless true h = h refl
false_unless false h = refl

-- ---- texts in order

abbrev text_cmp : Text → Text → Ordering
text_cmp a b = slice_cmp nat_cmp a.now b.now

only_less : (o p : Ordering) → o ≡ ordering_reverse p → is_lt p ≡ false → is_eq o ≡ false → o ≡ Less
only_less o Less e p q = cc
only_less o Equal e p q = let tie = ap is_eq (sym e) ∙ q in cc
only_less o Greater e p q = e

-- neighbours that are in order and differ rise, and so do all pairs
rising : (ts : List Text) → IsSorted text_cmp ts → ((k : ℕ) → k + 1 < length ts → DifferAt ts k (k + 1))
    → (i j : ℕ) → i < j → j < length ts → DifferAt ts i j
rising ts sorted neighbours i j less within d =
    let total = on_total (λ (t : Text). t.now) nat_list_cmp_total in
    let rises : (k : ℕ) → k + 1 < length ts → text_cmp (get_or ts k d) (get_or ts (k + 1) d) ≡ Less =
    λ k h. let x = get_or ts k d in let y = get_or ts (k + 1) d in
    only_less (text_cmp x y) (text_cmp y x) (total.antisymm x y) (sorted k d (omega arith) h) (is_eq-slice_cmp x.now y.now ∙ neighbours k h d) in
    let below = Less-from_sorted text_cmp ts i j d (sorted_from_all_adjacent total ts d rises) less within in
    sym (is_eq-slice_cmp (get_or ts i d).now (get_or ts j d).now) ∙ ap is_eq below

pub neighbours_tell : (ts : List Text) → IsSorted text_cmp ts → ((k : ℕ) → k + 1 < length ts → DifferAt ts k (k + 1)) → are_distinct (texts ts) ≡ true
neighbours_tell ts sorted neighbours = (distinct_differ (texts ts)).1 (all_differ ts (rising ts sorted neighbours))
