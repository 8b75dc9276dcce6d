-- Lists of slots in which no name stands twice.
use Rattle.std.proofs.Common.{◌≡◌, inl, inr, List, [], ◌∷◌, ◌++◌, arith, refl, zero, suc, sym, subst, Result, Ok, Err, OnOk, OnErr, ℕ}
use Rattle.std.specs.Prelude.{◌↔◌, IsTrue, is_some, Bool, true, false, cond, Some, Option}
use Rattle.std.specs.List.{Contains}
use Rattle.std.specs.Str.{bytes_eq}
use Rattle.std.proofs.lemmas.Slice.Eq.{bytes_eq-Decides}
use Rattle.dataset_types.specs.Slots.{find_slot}
use Rattle.dataset_types.specs.declared.slot.Slot.{Slot}
use Rattle.std.proofs.lemmas.List.{map-append}
use Rattle.std.proofs.lemmas.List.Elements.{Contains-push_cases}
use Rattle.dataset_types.specs.Tables.{Distinct}
use Rattle.dataset_types.specs.declared.slot.Named.{Named}
use Rattle.dataset_types.specs.Envs.{names_of}

first_in : {A : Type 0} (xs : List A) (x y : A) → x ≡ y → Contains (x ∷ xs) y
first_in xs x y e = (0, omega arith, e)

later_in : {A : Type 0} (x : A) (xs : List A) (y : A) → Contains xs y → Contains (x ∷ xs) y
later_in x xs y c = (suc c.0, omega (arith, c.1), c.2)

-- with one item more, where it isn't there yet
pub Distinct-push : {A : Type 0} (xs : List A) (x : A) → Distinct xs → (Contains xs x → ⊥) → Distinct (xs ++ x ∷ [])
Distinct-push [] x d new = (λ (c : Contains [] x). omega (arith, c.1), tt)
Distinct-push (y ∷ ys) x d new = (
  λ c. elim (Contains-push_cases ys x y c) [ inl there ↦ d.0 there | inr e ↦ new (first_in ys y x (sym e)) ],
  Distinct-push ys x d.1 (λ c. new (later_in y ys x c)),
)

-- after a push, which may find no memory
pub names_pushed : {T E : Type 0} (r : Result T E) (old new : List Named) (e : Named) → OnOk r (new ≡ old ++ e ∷ []) → OnErr r (new ≡ old)
    → (Contains (names_of old) e.name → ⊥) → Distinct (names_of old) → Distinct (names_of new)
names_pushed (Ok t) old new e ok err fresh d =
    subst (λ l. Distinct (names_of l)) (sym ok) (subst Distinct (sym (map-append (λ (n : Named). n.name) old (e ∷ []))) (Distinct-push (names_of old) e.name d fresh))
names_pushed (Err t) old new e ok err fresh d = subst (λ l. Distinct (names_of l)) (sym err) d

found_in : (b : Bool) (found : Option Slot) (slot : Slot) (x : List ℕ) (xs : List (List ℕ)) (name : List ℕ)
    → (b ≡ true → x ≡ name) → (IsTrue (is_some found) → Contains xs name) → IsTrue (is_some (cond b (Some slot) found)) → Contains (x ∷ xs) name
found_in true found slot x xs name here there h = first_in xs x name (here refl)
found_in false found slot x xs name here there h = later_in x xs name (there h)

found_at : (b : Bool) (found : Option Slot) (slot : Slot) (x : List ℕ) (xs : List (List ℕ)) (name : List ℕ)
    → (x ≡ name → b ≡ true) → (Contains xs name → IsTrue (is_some found)) → Contains (x ∷ xs) name → IsTrue (is_some (cond b (Some slot) found))
found_at true found slot x xs name here there c = refl
found_at false found slot x xs name here there (zero, lt, e) = let no : false ≡ true = here e in cc
found_at false found slot x xs name here there (suc k, lt, e) = there (k, omega (arith, lt), e)

-- a slot is found exactly where the name is there
pub found_is : (slots : List Named) (name : List ℕ) → IsTrue (is_some (find_slot slots name)) ↔ Contains (names_of slots) name
found_is [] name = (λ (h : IsTrue false). let no : false ≡ true = h in cc, λ (c : Contains [] name). absurd (omega (arith, c.1)))
found_is (e ∷ es) name =
    let same = bytes_eq-Decides e.name name in
    let rest = found_is es name in (
      found_in (bytes_eq e.name name) (find_slot es name) e.slot e.name (names_of es) name same.0 rest.0,
      found_at (bytes_eq e.name name) (find_slot es name) e.slot e.name (names_of es) name same.1 rest.1,
    )
