-- Names that are added one after another stand there once each.
use Rattle.std.proofs.Common.{◌≡◌, ℕ, Bool, true, false, cond, not, ◌||◌, List, [], ◌∷◌, ◌++◌, filter, refl, sym, ap, ◌∙◌, append_assoc}
use Rattle.std.specs.Str.{bytes_eq}
use Rattle.std.specs.Cmp.Lexicographic.{bytes_decides}
use Rattle.std.proofs.lemmas.List.{append-nil}
use Rattle.std.proofs.lemmas.List.Elements.{filter-append}
use Rattle.name_lists.specs.Nub.{contains, added, all_added, nub}

-- the names that aren't y
abbrev but : List ℕ → List (List ℕ) → List (List ℕ)
but y names = filter (λ n. not (bytes_eq y n)) names

-- another name is among them where it is among all
still_there : (y x : List ℕ) → bytes_eq y x ≡ false → (names : List (List ℕ)) → contains (but y names) x ≡ contains names x
still_there y x apart [] = refl
still_there y x apart (z ∷ names) = by (bytes_eq y z) refl (still_there y x apart names)
  where
    by : (t : Bool) → bytes_eq y z ≡ t → contains (but y names) x ≡ contains names x
        → contains (cond (not t) (z ∷ but y names) (but y names)) x ≡ (bytes_eq z x || contains names x)
    by true e rest =
        let same : y ≡ z = (bytes_decides y z).0 e in
        let no : bytes_eq z x ≡ false = sym (ap (λ n. bytes_eq n x) same) ∙ apart in
        rest ∙ sym (ap (λ b. b || contains names x) no)
    by false e rest = ap (λ b. bytes_eq z x || b) rest

-- one name more
nub_more : (names : List (List ℕ)) (x : List ℕ) → nub (names ++ x ∷ []) ≡ added (nub names) x
nub_more [] x = refl
nub_more (y ∷ names) x = ap (λ l. y ∷ but y l) (nub_more names x) ∙ by (bytes_eq y x) refl (contains (nub names) x) refl
  where
    by : (same : Bool) → bytes_eq y x ≡ same → (there : Bool) → contains (nub names) x ≡ there
        → y ∷ but y (cond there (nub names) (nub names ++ x ∷ []))
        ≡ cond (same || contains (but y (nub names)) x) (y ∷ but y (nub names)) (y ∷ (but y (nub names) ++ x ∷ []))
    by true e true is = refl
    by true e false is =
        ap (λ l. y ∷ l) (filter-append (λ n. not (bytes_eq y n)) (nub names) (x ∷ [])
        ∙ ap (λ b. but y (nub names) ++ cond (not b) (x ∷ []) []) e
        ∙ append-nil (but y (nub names)))
    by false e true is =
        sym (ap (λ b. cond b (y ∷ but y (nub names)) (y ∷ (but y (nub names) ++ x ∷ []))) (still_there y x e (nub names) ∙ is))
    by false e false is =
        ap (λ l. y ∷ l) (filter-append (λ n. not (bytes_eq y n)) (nub names) (x ∷ [])
        ∙ ap (λ b. but y (nub names) ++ cond (not b) (x ∷ []) []) e)
        ∙ sym (ap (λ b. cond b (y ∷ but y (nub names)) (y ∷ (but y (nub names) ++ x ∷ []))) (still_there y x e (nub names) ∙ is))

added_all : (names more : List (List ℕ)) → all_added (nub names) more ≡ nub (names ++ more)
added_all names [] = ap nub (sym (append-nil names))
added_all names (x ∷ more) =
    ap (λ l. all_added l more) (sym (nub_more names x)) ∙ added_all (names ++ x ∷ []) more ∙ ap nub (append_assoc names (x ∷ []) more)

-- names that are added to none
pub added_to_none : (names : List (List ℕ)) → all_added [] names ≡ nub names
added_to_none names = added_all [] names

-- names after others
pub all_added-append : (names xs ys : List (List ℕ)) → all_added names (xs ++ ys) ≡ all_added (all_added names xs) ys
all_added-append names [] ys = refl
all_added-append names (x ∷ xs) ys = all_added-append (added names x) xs ys
