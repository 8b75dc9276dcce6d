-- The names of a SELECT stand once.
use Rattle.std.proofs.Common.{◌≡◌, Bool, true, false, not, List, [], ◌∷◌, refl, subst, inl, inr, arith}
use Rattle.std.specs.Prelude.{filter}
use Rattle.std.specs.List.{Contains}
use Rattle.std.specs.Str.{bytes_eq}
use Rattle.std.specs.Cmp.Lexicographic.{bytes_decides}
use Rattle.std.proofs.lemmas.List.Elements.{Contains-append_right}
use Rattle.dataset_types.specs.Tables.{Distinct}
use Rattle.dataset_types.proofs.TableLemmas.{empty_contains, Contains-cases}
use Rattle.expr_meaning.specs.Names.{Name}
use Rattle.name_lists.specs.Nub.{nub}

module _ (p : Name → Bool) where
  -- what is kept stood there
  kept_stood : (xs : List Name) (x : Name) → Contains (filter p xs) x → Contains xs x
  kept_stood [] x held = held
  kept_stood (y ∷ ys) x held = by (p y) refl (kept_stood ys x)
    where
      by : (t : Bool) → p y ≡ t → (Contains (filter p ys) x → Contains ys x) → Contains (y ∷ ys) x
      by true is rest = elim (Contains-cases y (filter p ys) x (rw is at held)) [
        | inl e ↦ (0, omega arith, e)
        | inr later ↦ Contains-append_right (y ∷ []) ys x (rest later)
      ]
      by false is rest = Contains-append_right (y ∷ []) ys x (rest (rw is at held))

  -- what is kept passes
  kept_passes : (xs : List Name) (x : Name) → Contains (filter p xs) x → p x ≡ true
  kept_passes [] x held = absurd (empty_contains x held)
  kept_passes (y ∷ ys) x held = by (p y) refl (kept_passes ys x)
    where
      by : (t : Bool) → p y ≡ t → (Contains (filter p ys) x → p x ≡ true) → p x ≡ true
      by true is rest = elim (Contains-cases y (filter p ys) x (rw is at held)) [ inl e ↦ subst (λ z. p z ≡ true) e is | inr later ↦ rest later ]
      by false is rest = rest (rw is at held)

  kept_distinct : (xs : List Name) → Distinct xs → Distinct (filter p xs)
  kept_distinct [] d = tt
  kept_distinct (y ∷ ys) d = by (p y) refl (kept_distinct ys d.1)
    where
      by : (t : Bool) → p y ≡ t → Distinct (filter p ys) → Distinct (filter p (y ∷ ys))
      by true is rest = rw is (λ held. d.0 (kept_stood ys y held), rest)
      by false is rest = rw is rest

itself : (n : Name) → not (bytes_eq n n) ≡ true → ⊥
itself n e = let same : bytes_eq n n ≡ true = (bytes_decides n n).1 refl in cc (rw same at e)

pub nub_distinct : (names : List Name) → Distinct (nub names)
nub_distinct [] = tt
nub_distinct (n ∷ ns) = (λ held. itself n (kept_passes (λ m. not (bytes_eq n m)) (nub ns) n held), kept_distinct (λ m. not (bytes_eq n m)) (nub ns) (nub_distinct ns))
