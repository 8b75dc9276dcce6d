-- There is a free name, and names that are made so are distinct.
use Rattle.std.proofs.Common.{◌≡◌, ◌≤◌, ◌<◌, ◌+◌, ◌-◌, ◌^◌, ℕ, zero, suc, List, [], ◌∷◌, ◌++◌, length, drop, map, Bool, true, false, Option, Some, None, refl, sym, ◌∙◌, ap, subst, arith, length-append, append_assoc}
use Rattle.std.specs.Prelude.{not, cond, ◌||◌, find, unwrap_or, decimal, slice_get}
use Rattle.std.specs.List.{list_any, range_with_len, IsDistinct, AllByRecursion}
use Rattle.std.specs.Str.{bytes_eq}
use Rattle.std.specs.Cmp.Lexicographic.{bytes_decides}
use Rattle.std.proofs.lemmas.Cmp.{nat_list_eq_equiv}
use Rattle.std.proofs.lemmas.List.{append_cancel_left, append-nil}
use Rattle.std.proofs.lemmas.Map.Made.{length-le_from_is_member}
use Rattle.std.proofs.lemmas.Map.Views.{list_any-from_Contains}
use Rattle.std.proofs.lemmas.Fmt.{decimal_injective}
use Rattle.std.specs.List.{Contains}
use Rattle.dataset_types.specs.Tables.{Distinct}
use Rattle.dataset_types.proofs.TableLemmas.{Distinct-push}
use Rattle.csv_load.specs.Names.{with_number, is_free, candidates, free_name, base_name, names_after}

-- texts that aren't equal aren't found to be
differ : (a b : List ℕ) → (a ≡ b → ⊥) → bytes_eq a b ≡ false
differ a b apart = by (bytes_eq a b) refl
  where
    by : (t : Bool) → bytes_eq a b ≡ t → t ≡ false
    by true e = absurd (apart ((bytes_decides a b).0 e))
    by false e = refl

number_apart : (name : List ℕ) (j k : ℕ) → j < k → k < 2 ^ 64 → with_number name j ≡ with_number name k → ⊥
number_apart name j k lt small e =
    let rest : 95 ∷ decimal j ≡ 95 ∷ decimal k = append_cancel_left name (95 ∷ decimal j) (95 ∷ decimal k) e in
    let same : decimal j ≡ decimal k = cc in
    let number = decimal_injective j k (omega arith) small same in
    omega arith

name_apart : (name : List ℕ) (k : ℕ) → name ≡ with_number name k → ⊥
name_apart name k e =
    let size : length name ≡ length (with_number name k) = ap length e in
    let more = length-append name (95 ∷ decimal k) in
    omega arith

abbrev pub numbered_names : List ℕ → ℕ → ℕ → List (List ℕ)
numbered_names name k n = map (with_number name) (range_with_len k n)

later_apart : (name : List ℕ) (j k n : ℕ) → j < k → k + n < 2 ^ 64 → AllByRecursion (λ y. bytes_eq (with_number name j) y ≡ false) (numbered_names name k n)
later_apart name j k zero lt small = tt
later_apart name j k (suc n) lt small =
    (differ _ _ (number_apart name j k lt (omega arith)), later_apart name j (k + 1) n (omega arith) (omega arith))

all_apart : (name : List ℕ) (k n : ℕ) → AllByRecursion (λ y. bytes_eq name y ≡ false) (numbered_names name k n)
all_apart name k zero = tt
all_apart name k (suc n) = (differ _ _ (name_apart name k), all_apart name (k + 1) n)

numbers_distinct : (name : List ℕ) (k n : ℕ) → k + n < 2 ^ 64 → IsDistinct bytes_eq (numbered_names name k n)
unfolding IsDistinct
numbers_distinct name k zero small = tt
numbers_distinct name k (suc n) small = (later_apart name k (k + 1) n (omega arith) (omega arith), numbers_distinct name (k + 1) n (omega arith))

candidates_distinct : (name : List ℕ) (n : ℕ) → 2 + n < 2 ^ 64 → IsDistinct bytes_eq (candidates name n)
unfolding IsDistinct
candidates_distinct name n small = (all_apart name 2 n, numbers_distinct name 2 n small)

-- where no candidate is free, each of them is taken
none_free : (taken cs : List (List ℕ)) → find (is_free taken) cs ≡ None → (q : List ℕ) → list_any (bytes_eq q) cs ≡ true → list_any (bytes_eq q) taken ≡ true
none_free taken [] none q e = cc e
none_free taken (c ∷ cs) none q e = by (list_any (bytes_eq c) taken) (bytes_eq q c) refl refl (none_free taken cs)
  where
    by : (held same : Bool) → list_any (bytes_eq c) taken ≡ held → bytes_eq q c ≡ same →
        (find (is_free taken) cs ≡ None → (x : List ℕ) → list_any (bytes_eq x) cs ≡ true → list_any (bytes_eq x) taken ≡ true) → list_any (bytes_eq q) taken ≡ true
    by false same h s rest = cc (rw h at none)
    by true true h s rest = subst (λ x. list_any (bytes_eq x) taken ≡ true) (sym ((bytes_decides q c).0 s)) h
    by true false h s rest = rest (rw h at none) q (rw s at e)

range_size : (k n : ℕ) (name : List ℕ) → length (numbered_names name k n) ≡ n
range_size k zero name = refl
range_size k (suc n) name = let h = range_size (k + 1) n name in omega arith

-- among one candidate more than there are names taken, one is free
pub some_free : (taken : List (List ℕ)) (name : List ℕ) → length taken ≤ 32 → find (is_free taken) (candidates name (length taken)) ≡ None → ⊥
some_free taken name few none =
    let most = length-le_from_is_member nat_list_eq_equiv (candidates name (length taken)) taken
    (candidates_distinct name (length taken) (omega arith)) (none_free taken (candidates name (length taken)) none) in
    let size = range_size 2 (length taken) name in
    omega arith

found_free : (taken cs : List (List ℕ)) (d : List ℕ) → (find (is_free taken) cs ≡ None → ⊥) → is_free taken (unwrap_or (find (is_free taken) cs) d) ≡ true
found_free taken [] d some = absurd (some refl)
found_free taken (c ∷ cs) d some = by (is_free taken c) refl (found_free taken cs d)
  where
    by : (t : Bool) → is_free taken c ≡ t → ((find (is_free taken) cs ≡ None → ⊥) → is_free taken (unwrap_or (find (is_free taken) cs) d) ≡ true) →
        is_free taken (unwrap_or (cond t (Some c) (find (is_free taken) cs)) d) ≡ true
    by true e rest = e
    by false e rest = rest (λ none. some (rw e none))

free_is : (taken : List (List ℕ)) (name : List ℕ) → length taken ≤ 32 → is_free taken (free_name taken name) ≡ true
free_is taken name few = found_free taken (candidates name (length taken)) name (some_free taken name few)

not_held : (taken : List (List ℕ)) (name : List ℕ) → is_free taken name ≡ true → Contains taken name → ⊥
not_held taken name free held =
    let h = list_any-from_Contains nat_list_eq_equiv name taken held in
    cc (rw h at free)

-- names that are made one after another stay distinct
pub names_distinct : (taken fields : List (List ℕ)) → Distinct taken → length taken + length fields ≤ 32 → Distinct (taken ++ names_after taken fields)
names_distinct taken [] d few = rw (append-nil taken) d
names_distinct taken (f ∷ fs) d few =
    let name = free_name taken (base_name f) in
    let new = Distinct-push taken name d (not_held taken name (free_is taken (base_name f) (omega arith))) in
    let size = length-append taken (name ∷ []) in
    let rest = names_distinct (taken ++ name ∷ []) fs new (omega arith) in
    rw append_assoc at rest

-- a number whose name is taken is passed over
pub next_number : (taken : List (List ℕ)) (name : List ℕ) (n k : ℕ) → k < n + 2 → is_free taken (with_number name k) ≡ false →
    find (is_free taken) (numbered_names name k (n + 2 - k)) ≡ find (is_free taken) (numbered_names name (k + 1) (n + 2 - (k + 1)))
next_number taken name n k lt e =
    let more : n + 2 - k ≡ suc (n + 2 - (k + 1)) = omega arith in
    rw (more, e) refl

pub no_number : (taken : List (List ℕ)) (name : List ℕ) (n k : ℕ) → n + 2 ≤ k → find (is_free taken) (numbered_names name k (n + 2 - k)) ≡ None
no_number taken name n k le =
    let none : n + 2 - k ≡ 0 = omega arith in
    rw none refl

-- the name of one field more
pub named_next : (whole names fields : List (List ℕ)) (field name : List ℕ) → whole ≡ names ++ names_after names (drop (length names) fields) →
    slice_get fields (length names) ≡ Some field → name ≡ free_name names (base_name field) →
    whole ≡ (names ++ name ∷ []) ++ names_after (names ++ name ∷ []) (drop (length (names ++ name ∷ [])) fields)
named_next whole names fields field name was at is =
    let size : length (names ++ name ∷ []) ≡ suc (length names) = length-append names (name ∷ []) ∙ omega arith in
    was ∙ rw (drop_at fields (length names) field at, size, ← is) (simp append_assoc)
  where
    drop_at : (xs : List (List ℕ)) (i : ℕ) (x : List ℕ) → slice_get xs i ≡ Some x → drop i xs ≡ x ∷ drop (suc i) xs
    drop_at [] i x e = cc e
    drop_at (y ∷ ys) zero x e = let same : y ≡ x = cc e in rw same refl
    drop_at (y ∷ ys) (suc i) x e = drop_at ys i x e

pub there : (xs : List (List ℕ)) (i : ℕ) (x : List ℕ) → slice_get xs i ≡ Some x → i < length xs
there [] i x e = cc e
there (y ∷ ys) zero x e = omega arith
there (y ∷ ys) (suc i) x e = let h = there ys i x e in omega (arith, h)

pub nothing_there : (xs : List (List ℕ)) (i : ℕ) → slice_get xs i ≡ None → drop i xs ≡ []
nothing_there [] zero e = refl
nothing_there [] (suc i) e = refl
nothing_there (y ∷ ys) zero e = cc e
nothing_there (y ∷ ys) (suc i) e = nothing_there ys i e

pub named_all : (whole names fields : List (List ℕ)) → whole ≡ names ++ names_after names (drop (length names) fields) → slice_get fields (length names) ≡ None → names ≡ whole
named_all whole names fields was e = sym (was ∙ rw (nothing_there fields (length names) e) (append-nil names))
