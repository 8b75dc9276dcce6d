-- How a pattern is followed from place to place.
use Rattle.std.proofs.Common.{◌≡◌, ℕ, zero, suc, ◌+◌, ◌<◌, ◌≤◌, ◌==◌, Bool, true, false, ◌||◌, ◌&&◌, List, [], ◌∷◌, length, drop, get_or, refl, ap, sym, ◌∙◌, arith}
use Rattle.std.specs.Prelude.{if◌then◌else◌, slice_index_or}
use Rattle.std.proofs.lemmas.List.{drop_more, drop_all}
use Rattle.std.proofs.Math.Bool.{and-false, or-false}
use Rattle.expr_ops.specs.Texts.{is_done, somewhere, after_one, matches}
use Rattle.expr_ops.specs.LikeSteps.{tail, begins, and_after, one_on, reached, some_passes, none_of}

-- ---- truths

shared : (a b x s r : Bool) → (a && (x || s)) || ((b && (x || s)) || r) ≡ ((a || b) && x) || (((a || b) && s) || r)
shared true b true s r = refl
shared true true false true r = refl
shared true true false false r = refl
shared true false false s r = refl
shared false true true s r = refl
shared false true false s r = refl
shared false false x s r = refl

last_shared : (a b x : Bool) → (a && x) || ((b && x) || false) ≡ ((a || b) && x) || false
last_shared true true true = refl
last_shared true true false = refl
last_shared true false true = refl
last_shared true false false = refl
last_shared false b x = refl

no_more : (a b : Bool) → a || ((b && false) || false) ≡ a || false
no_more true b = refl
no_more false true = refl
no_more false false = refl

regrouped : (a o k x r : Bool) → a || ((o && (k && x)) || r) ≡ a || (((o && k) && x) || r)
regrouped true o k x r = refl
regrouped false true k x r = refl
regrouped false false k x r = refl

-- ---- the places that a part of a pattern reaches

all_after : (test : List ℕ → Bool) (sofar : Bool) (os : List Bool) (text : List ℕ) → length os ≡ suc (length text) →
    (sofar && somewhere test text) || some_passes (somewhere test) os text ≡ some_passes test (and_after sofar os) text
all_after test sofar [] text e = let no : ⊥ = omega arith in absurd no
all_after test sofar (o ∷ []) [] e = last_shared sofar o (test [])
all_after test sofar (o ∷ p ∷ os) [] e = let no : ⊥ = omega arith in absurd no
all_after test sofar (o ∷ os) (c ∷ text) e =
    shared sofar o (test (c ∷ text)) (somewhere test text) (some_passes (somewhere test) os text)
    ∙ ap (λ r. ((sofar || o) && test (c ∷ text)) || r) (all_after test (sofar || o) os text (omega arith))

one_after : (wanted : ℕ) (test : List ℕ → Bool) (before : Bool) (os : List Bool) (text : List ℕ) → length os ≡ suc (length text) →
    (before && test text) || some_passes (after_one wanted test) os text ≡ some_passes test (one_on wanted before os text) text
one_after wanted test before [] text e = let no : ⊥ = omega arith in absurd no
one_after wanted test before (o ∷ []) [] e = no_more (before && test []) o
one_after wanted test before (o ∷ p ∷ os) [] e = let no : ⊥ = omega arith in absurd no
one_after wanted test before (o ∷ os) (c ∷ text) e =
    regrouped (before && test (c ∷ text)) o (begins wanted (c ∷ text)) (test text) (some_passes (after_one wanted test) os text)
    ∙ ap (λ r. (before && test (c ∷ text)) || r) (one_after wanted test (o && begins wanted (c ∷ text)) os text (omega arith))

part_after : (any : Bool) (wanted : ℕ) (test : List ℕ → Bool) (os : List Bool) (text : List ℕ) → length os ≡ suc (length text) →
    some_passes (λ u. if any then somewhere test u else after_one wanted test u) os text
    ≡ some_passes test (if any then and_after false os else one_on wanted false os text) text
part_after true wanted test os text e = all_after test false os text e
part_after false wanted test os text e = one_after wanted test false os text e

-- the text is one of the pattern from where its first part reaches
pub part_more : (wanted : ℕ) (pattern : List ℕ) (os : List Bool) (text : List ℕ) → length os ≡ length text + 1 →
    some_passes (matches (wanted ∷ pattern)) os text ≡ some_passes (matches pattern) (reached wanted os text) text
part_more wanted pattern os text e = part_after (wanted == 37) wanted (matches pattern) os text (omega (arith, e))

after_same : (sofar : Bool) (os : List Bool) → length (and_after sofar os) ≡ length os
after_same sofar [] = refl
after_same sofar (o ∷ os) = ap suc (after_same (sofar || o) os)

one_same : (wanted : ℕ) (before : Bool) (os : List Bool) (text : List ℕ) → length (one_on wanted before os text) ≡ length os
one_same wanted before [] text = refl
one_same wanted before (o ∷ os) text = ap suc (one_same wanted (o && begins wanted text) os (tail text))

part_same : (any : Bool) (wanted : ℕ) (os : List Bool) (text : List ℕ) → length (if any then and_after false os else one_on wanted false os text) ≡ length os
part_same true wanted os text = after_same false os
part_same false wanted os text = one_same wanted false os text

pub reached_same : (wanted : ℕ) (os : List Bool) (text : List ℕ) → length (reached wanted os text) ≡ length os
reached_same wanted os text = part_same (wanted == 37) wanted os text

-- ---- the start and the end

none_passes : (test : List ℕ → Bool) (places text : List ℕ) → some_passes test (none_of places) text ≡ false
none_passes test [] text = refl
none_passes test (c ∷ places) text = none_passes test places (tail text)

pub start_passes : (test : List ℕ → Bool) (text : List ℕ) → some_passes test (true ∷ none_of text) text ≡ test text
start_passes test text = ap (λ r. test text || r) (none_passes test text (tail text)) ∙ or-false (test text)

pub none_same : (text : List ℕ) → length (none_of text) ≡ length text
none_same [] = refl
none_same (c ∷ text) = ap suc (none_same text)

pub end_passes : (os : List Bool) (text : List ℕ) (d : Bool) → length os ≡ suc (length text) → some_passes is_done os text ≡ get_or os (length text) d
end_passes [] text d e = let no : ⊥ = omega arith in absurd no
end_passes (true ∷ []) [] d e = refl
end_passes (false ∷ []) [] d e = refl
end_passes (o ∷ p ∷ os) [] d e = let no : ⊥ = omega arith in absurd no
end_passes (o ∷ os) (c ∷ text) d e = rw (and-false o) (end_passes os text d (omega arith))

-- ---- one turn of the loops

tail_more : (text : List ℕ) (i : ℕ) → tail (drop i text) ≡ drop (suc i) text
tail_more [] zero = refl
tail_more [] (suc i) = refl
tail_more (c ∷ text) zero = refl
tail_more (c ∷ text) (suc i) = tail_more text i

pub one_turn : (wanted : ℕ) (before : Bool) (os : List Bool) (text : List ℕ) (i : ℕ) → i < length os →
    one_on wanted before (drop i os) (drop i text)
    ≡ before ∷ one_on wanted (slice_index_or os i false && begins wanted (drop i text)) (drop (i + 1) os) (drop (i + 1) text)
one_turn wanted before os text i l =
    ap (λ xs. one_on wanted before xs (drop i text)) (drop_more os i false l)
    ∙ ap (λ u. before ∷ one_on wanted (slice_index_or os i false && begins wanted (drop i text)) (drop (i + 1) os) u)
    (tail_more text i ∙ ap (λ k. drop k text) (let s : suc i ≡ i + 1 = omega arith in s))

-- the whole is what the rest of the pattern gives from where its front reaches
abbrev pub Follows : List ℕ → List ℕ → List Bool → ℕ → Type 0
Follows parts text os i = (matches parts text ≡ some_passes (matches (drop i parts)) os text) × (length os ≡ length text + 1)

pub begun : (parts text : List ℕ) (os : List Bool) → os ≡ true ∷ none_of text → Follows parts text os 0
begun parts text os e = (
  sym (ap (λ xs. some_passes (matches parts) xs text) e ∙ start_passes (matches parts) text),
  ap (λ (xs : List Bool). length xs) e ∙ ap suc (none_same text) ∙ (let s : suc (length text) ≡ length text + 1 = omega arith in s),
)

pub went_on : (parts text : List ℕ) (os next : List Bool) (i c : ℕ) → Follows parts text os i → i < length parts → c ≡ get_or parts i c →
    next ≡ reached c os text → Follows parts text next (i + 1)
went_on parts text os next i c f l is e = (
  f.0 ∙ ap (λ xs. some_passes (matches xs) os text) (drop_more parts i c l ∙ ap (λ x. x ∷ drop (i + 1) parts) (sym is))
      ∙ part_more c (drop (i + 1) parts) os text f.1 ∙ ap (λ xs. some_passes (matches (drop (i + 1) parts)) xs text) (sym e),
  ap (λ (xs : List Bool). length xs) e ∙ reached_same c os text ∙ f.1,
)

pub ended : (parts text : List ℕ) (os : List Bool) (i : ℕ) (d : Bool) → Follows parts text os i → length parts ≤ i →
    matches parts text ≡ get_or os (length text) d
ended parts text os i d f h =
    f.0 ∙ ap (λ xs. some_passes (matches xs) os text) (drop_all i parts h) ∙ end_passes os text d (omega (arith, f.1))
