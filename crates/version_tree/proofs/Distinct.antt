-- The counted prefixes are the distinct ones.
use Rattle.std.proofs.Common.{◌≡◌, ◌≢◌, inl, inr, ◌<◌, ◌≤◌, ◌+◌, ◌-◌, ℕ, zero, suc, List, [], ◌∷◌, ◌++◌, length, take, refl, ap, sym, ◌∙◌, Bool, true, false, cond, ◌||◌, arith, append_assoc, append-nil}
use Rattle.std.proofs.lemmas.Bool.{cases_lt, cases_Bool, or_left, or_right, or_from, true≢false}
use Rattle.std.proofs.lemmas.Grind.{flat_map-append}
use Rattle.std.proofs.lemmas.List.{length-take-le}
use Rattle.std.proofs.lemmas.List.Folds.{list_any-append}
use Rattle.std.proofs.lemmas.Slice.Eq.{bytes_eq-Decides}
use Rattle.std.specs.List.{list_any}
use Rattle.std.specs.Set.{distinct_count, unique_keys}
use Rattle.std.specs.Str.{bytes_eq}
use Rattle.version_tree.specs.Limits.{ids_of, shared, longest_shared, new_prefixes, prefixes_after, prefixes_of}
use Rattle.version_tree.specs.Prefixes.{prefixes_to, prefixes_in, all_prefixes, distinct_prefixes}
use Rattle.version_tree.specs.declared.version.Version.{Version}

-- ---- what two lists share

-- the first ids that two lists share are the same
shared_take : (xs ys : List ℕ) (k : ℕ) → k ≤ shared xs ys → take k xs ≡ take k ys
shared_take xs ys zero h = refl
shared_take [] ys (suc k) h = absurd (omega (arith, h))
shared_take (x ∷ xs) [] (suc k) h = absurd (omega (arith, h))
shared_take (x ∷ xs) (y ∷ ys) (suc k) h = grind (arith, shared_take xs ys k)

-- no longer front is the same
shared_most : (xs ys : List ℕ) (k : ℕ) → take k xs ≡ take k ys → k ≤ length xs → k ≤ length ys → k ≤ shared xs ys
shared_most xs ys zero e a b = omega arith
shared_most [] ys (suc k) e a b = absurd (omega (arith, a))
shared_most (x ∷ xs) [] (suc k) e a b = absurd (omega (arith, b))
shared_most (x ∷ xs) (y ∷ ys) (suc k) e a b = grind (arith, shared_most xs ys k)

-- no more is shared than the first list has
shared_within : (xs ys : List ℕ) → shared xs ys ≤ length xs
shared_within [] ys = omega arith
shared_within (x ∷ xs) [] = omega arith
shared_within (x ∷ xs) (y ∷ ys) = grind (arith, shared_within xs ys)

-- ---- which prefixes are there

-- a list has the prefix of each length up to its own
has : (t xs : List ℕ) (n k : ℕ) → 1 ≤ k → k ≤ n → t ≡ take k xs → list_any (bytes_eq t) (prefixes_to n xs) ≡ true
has t xs zero k a b e = absurd (omega (arith, a, b))
has t xs (suc n) k a b e =
    list_any-append (bytes_eq t) (prefixes_to n xs) (take (suc n) xs ∷ [])
    ∙ (elim (cases_lt n k) as (λ _. (list_any (bytes_eq t) (prefixes_to n xs) || list_any (bytes_eq t) (take (suc n) xs ∷ [])) ≡ true) [
      | inl lt ↦ (let last : k ≡ suc n = omega (arith, lt, b) in
          or_right _ _ (or_left _ _ ((bytes_eq-Decides t (take (suc n) xs)).1 (e ∙ ap (λ m. take m xs) last))))
      | inr le ↦ or_left _ _ (has t xs n k a le e)
    ])

-- what is none of the prefixes isn't there
lacks : (t xs : List ℕ) (n : ℕ) → ((k : ℕ) → k ≤ n → bytes_eq t (take k xs) ≡ false) → list_any (bytes_eq t) (prefixes_to n xs) ≡ false
lacks t xs zero f = refl
lacks t xs (suc n) f =
    list_any-append (bytes_eq t) (prefixes_to n xs) (take (suc n) xs ∷ [])
    ∙ or_from _ _ (lacks t xs n (λ k le. f k (omega (arith, le)))) (or_from _ _ (f (suc n) (omega arith)) refl)

-- lists of two lengths differ
unlike : (xs ys : List ℕ) → length xs ≢ length ys → bytes_eq xs ys ≡ false
unlike xs ys apart = elim (cases_Bool (bytes_eq xs ys)) as (λ _. bytes_eq xs ys ≡ false) [
  | inl hit ↦ absurd (apart (ap (λ (l : List ℕ). length l) ((bytes_eq-Decides xs ys).0 hit)))
  | inr miss ↦ miss
]

-- a prefix that is longer than what is shared is no prefix of the other list
differs : (xs ids : List ℕ) (k j : ℕ) → shared xs ids < k → k ≤ length ids → j ≤ length xs → bytes_eq (take k ids) (take j xs) ≡ false
differs xs ids k j more within le = elim (cases_Bool (bytes_eq (take k ids) (take j xs))) as (λ _. bytes_eq (take k ids) (take j xs) ≡ false) [
  | inl hit ↦ (
      let same : take k ids ≡ take j xs = (bytes_eq-Decides (take k ids) (take j xs)).0 hit in
      let even : k ≡ j = omega (arith, ap (λ (l : List ℕ). length l) same, length-take-le k ids within, length-take-le j xs le) in
      absurd (omega (arith, more, shared_most xs ids k (ap (λ m. take m xs) even ∙ sym same) (omega (arith, even, le)) within)))
  | inr miss ↦ miss
]

-- the versions have each prefix that is shared with one of them
all_have : (vs : List Version) (ids : List ℕ) (k : ℕ) → 1 ≤ k → k ≤ longest_shared vs ids → list_any (bytes_eq (take k ids)) (all_prefixes vs) ≡ true
all_have [] ids k a b = absurd (omega (arith, a, b))
all_have (v ∷ vs) ids k a b =
    let xs = ids_of v.cells in
    list_any-append (bytes_eq (take k ids)) (prefixes_in v) (all_prefixes vs)
    ∙ (elim (cases_lt (shared xs ids) k) as (λ _. (list_any (bytes_eq (take k ids)) (prefixes_in v) || list_any (bytes_eq (take k ids)) (all_prefixes vs)) ≡ true) [
      | inl lt ↦ or_right _ _ (all_have vs ids k a (omega (arith, lt, b)))
      | inr le ↦ or_left _ _ (has (take k ids) xs (length xs) k a (omega (arith, le, shared_within xs ids)) (sym (shared_take xs ids k le)))
    ])

-- they have no longer one
all_lack : (vs : List Version) (ids : List ℕ) (k : ℕ) → longest_shared vs ids < k → k ≤ length ids → list_any (bytes_eq (take k ids)) (all_prefixes vs) ≡ false
all_lack [] ids k more within = refl
all_lack (v ∷ vs) ids k more within =
    let xs = ids_of v.cells in
    let here : shared xs ids < k = omega (arith, more) in
    list_any-append (bytes_eq (take k ids)) (prefixes_in v) (all_prefixes vs)
    ∙ or_from _ _ (lacks (take k ids) xs (length xs) (λ j le. differs xs ids k j here within le)) (all_lack vs ids k (omega (arith, more)) within)

-- ---- counting

abbrev one_unless : Bool → ℕ
one_unless b = cond b 0 1

count_head : (b : Bool) (a : List ℕ) (ts : List (List ℕ)) → length (cond b ts (a ∷ ts)) ≡ one_unless b + length ts
count_head true a ts = omega arith
count_head false a ts = omega arith

-- a list before the others counts unless it is among them
count_cons : (a : List ℕ) (ts : List (List ℕ)) → distinct_count bytes_eq (a ∷ ts) ≡ one_unless (list_any (bytes_eq a) ts) + distinct_count bytes_eq ts
count_cons a ts = count_head (list_any (bytes_eq a) ts) a (unique_keys bytes_eq ts)

moved : (p q r : Bool) → (q ≡ true → p ≡ r) → one_unless (p || (q || false)) + one_unless r ≡ one_unless p + one_unless (q || r)
moved true true true f = refl
moved true true false f = absurd (true≢false (f refl))
moved true false true f = refl
moved true false false f = refl
moved false true true f = absurd (true≢false (sym (f refl)))
moved false true false f = refl
moved false false true f = refl
moved false false false f = refl

either_way : (a b : List ℕ) → bytes_eq b a ≡ bytes_eq a b
either_way a b = elim (cases_Bool (bytes_eq a b)) as (λ _. bytes_eq b a ≡ bytes_eq a b) [
  | inl hit ↦ (bytes_eq-Decides b a).1 (sym ((bytes_eq-Decides a b).0 hit)) ∙ sym hit
  | inr miss ↦ elim (cases_Bool (bytes_eq b a)) as (λ _. bytes_eq b a ≡ bytes_eq a b) [
    | inl back ↦ absurd (true≢false (sym ((bytes_eq-Decides a b).1 (sym ((bytes_eq-Decides b a).0 back))) ∙ miss))
    | inr back ↦ back ∙ sym miss
  ]
]

-- a list after the others counts unless it is among them
count_push : (ts : List (List ℕ)) (b : List ℕ) → distinct_count bytes_eq (ts ++ b ∷ []) ≡ distinct_count bytes_eq ts + one_unless (list_any (bytes_eq b) ts)
count_push [] b = refl
count_push (a ∷ ts) b =
    let among = list_any-append (bytes_eq a) ts (b ∷ []) in
    let swap : one_unless (list_any (bytes_eq a) ts || (bytes_eq a b || false)) + one_unless (list_any (bytes_eq b) ts) ≡ one_unless (list_any (bytes_eq a) ts) + one_unless (bytes_eq a b || list_any (bytes_eq b) ts) =
    moved (list_any (bytes_eq a) ts) (bytes_eq a b) (list_any (bytes_eq b) ts) (λ hit. ap (λ x. list_any (bytes_eq x) ts) ((bytes_eq-Decides a b).0 hit)) in
    let first : one_unless (list_any (bytes_eq a) (ts ++ b ∷ [])) ≡ one_unless (list_any (bytes_eq a) ts || (bytes_eq a b || false)) = ap one_unless among in
    let last : one_unless (bytes_eq b a || list_any (bytes_eq b) ts) ≡ one_unless (bytes_eq a b || list_any (bytes_eq b) ts) = ap (λ x. one_unless (x || list_any (bytes_eq b) ts)) (either_way a b) in
    omega (arith, count_cons a (ts ++ b ∷ []), count_cons a ts, count_push ts b, swap, first, last)

-- ---- one version more

-- the count after the first prefixes of a list of which so many are there already
count_to : (ts : List (List ℕ)) (ids : List ℕ) (most i : ℕ) → ((k : ℕ) → 1 ≤ k → k ≤ most → list_any (bytes_eq (take k ids)) ts ≡ true)
    → ((k : ℕ) → most < k → k ≤ length ids → list_any (bytes_eq (take k ids)) ts ≡ false) → i ≤ length ids
    → distinct_count bytes_eq (ts ++ prefixes_to i ids) ≡ distinct_count bytes_eq ts + (i - most)
count_to ts ids most zero have lack le =
    let e : distinct_count bytes_eq ts ≡ distinct_count bytes_eq ts + (0 - most) = omega arith in
    ap (λ l. distinct_count bytes_eq l) (append-nil ts) ∙ e
count_to ts ids most (suc i) have lack le =
    let t = take (suc i) ids in
    let before = prefixes_to i ids in
    let grown : distinct_count bytes_eq (ts ++ before ++ t ∷ []) ≡ distinct_count bytes_eq (ts ++ before) + one_unless (list_any (bytes_eq t) (ts ++ before)) = count_push (ts ++ before) t in
    let same : distinct_count bytes_eq (ts ++ prefixes_to (suc i) ids) ≡ distinct_count bytes_eq (ts ++ before ++ t ∷ []) = ap (λ l. distinct_count bytes_eq l) (sym (append_assoc ts before (t ∷ []))) in
    let new : list_any (bytes_eq t) before ≡ false = lacks t ids i (λ k short. unlike t (take k ids) (λ e. omega (arith, e, short, length-take-le (suc i) ids le, length-take-le k ids (omega (arith, short, le))))) in
    let among = list_any-append (bytes_eq t) ts before in
    let more = count_to ts ids most i have lack (omega (arith, le)) in
    elim (cases_lt most (suc i)) as (λ _. distinct_count bytes_eq (ts ++ prefixes_to (suc i) ids) ≡ distinct_count bytes_eq ts + (suc i - most)) [
      | inl lt ↦ (
          let counts : one_unless (list_any (bytes_eq t) (ts ++ before)) ≡ 1 = ap one_unless (among ∙ or_from _ _ (lack (suc i) lt le) new) in
          omega (arith, grown, same, more, counts, lt))
      | inr some ↦ (
          let counts : one_unless (list_any (bytes_eq t) (ts ++ before)) ≡ 0 = ap one_unless (among ∙ or_left _ _ (have (suc i) (omega arith) some)) in
          omega (arith, grown, same, more, counts, some))
    ]

-- a version more adds the prefixes that are new
distinct_push : (vs : List Version) (v : Version) → distinct_prefixes (vs ++ v ∷ []) ≡ distinct_prefixes vs + new_prefixes vs (ids_of v.cells)
distinct_push vs v =
    let ids = ids_of v.cells in
    let all : all_prefixes (vs ++ v ∷ []) ≡ all_prefixes vs ++ prefixes_in v = flat_map-append prefixes_in vs (v ∷ []) ∙ ap (λ l. all_prefixes vs ++ l) (append-nil (prefixes_in v)) in
    ap (λ l. distinct_count bytes_eq l) all
    ∙ count_to (all_prefixes vs) ids (longest_shared vs ids) (length ids) (λ k a b. all_have vs ids k a b) (λ k a b. all_lack vs ids k a b) (omega arith)

distinct_after : (older vs : List Version) → distinct_prefixes (older ++ vs) ≡ distinct_prefixes older + prefixes_after older vs
distinct_after older [] =
    let e : distinct_prefixes older ≡ distinct_prefixes older + 0 = omega arith in
    ap (λ l. distinct_prefixes l) (append-nil older) ∙ e
distinct_after older (v ∷ vs) =
    let same : distinct_prefixes (older ++ v ∷ vs) ≡ distinct_prefixes (older ++ v ∷ [] ++ vs) = ap (λ l. distinct_prefixes l) (sym (append_assoc older (v ∷ []) vs)) in
    omega (arith, same, distinct_push older v, distinct_after (older ++ v ∷ []) vs)

-- the count is that of the distinct prefixes
pub distinct_law : (vs : List Version) → prefixes_of vs ≡ distinct_prefixes vs
distinct_law vs = omega (arith, distinct_after [] vs)
