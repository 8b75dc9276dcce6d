-- What stands at the ends of a list.
use Rattle.std.proofs.Common.{◌≡◌, ℕ, List, [], ◌∷◌, ◌++◌, Bool, true, false, refl, sym, ◌∙◌, arith}
use Rattle.std.specs.Prelude.{◌==◌}
use Rattle.std.proofs.lemmas.Bool.Decides.{nat_tests}
use Rattle.csv_load.specs.Ends.{onto, without_end, without_front}

onto_some : (b : Bool) (x : ℕ) (ys : List ℕ) (y : ℕ) → onto b x (ys ++ y ∷ []) ≡ x ∷ (ys ++ y ∷ [])
onto_some true x [] y = refl
onto_some true x (z ∷ zs) y = refl
onto_some false x ys y = refl

-- one more at the end that goes, and one that stays
pub end_goes : (p : ℕ → Bool) (xs : List ℕ) (x : ℕ) → p x ≡ true → without_end p (xs ++ x ∷ []) ≡ without_end p xs
end_goes p [] x e = rw e refl
end_goes p (y ∷ ys) x e = rw (end_goes p ys x e) refl

pub end_stays : (p : ℕ → Bool) (xs : List ℕ) (x : ℕ) → p x ≡ false → without_end p (xs ++ x ∷ []) ≡ xs ++ x ∷ []
end_stays p [] x e = rw e refl
end_stays p (y ∷ ys) x e = rw (end_stays p ys x e) (onto_some (p y) y ys x)

-- the same for one byte
pub byte_goes : (byte : ℕ) (text rest front : List ℕ) (last : ℕ) → without_end (λ b. b == byte) rest ≡ without_end (λ b. b == byte) text → rest ≡ front ++ last ∷ [] → last ≡ byte →
    without_end (λ b. b == byte) front ≡ without_end (λ b. b == byte) text
byte_goes byte text rest front last was e same =
    let yes : (last == byte) ≡ true = grind (arith, nat_tests) in
    sym (end_goes (λ b. b == byte) front last yes) ∙ (rw e at was)

pub byte_stays : (byte : ℕ) (text rest front : List ℕ) (last : ℕ) → without_end (λ b. b == byte) rest ≡ without_end (λ b. b == byte) text → rest ≡ front ++ last ∷ [] → (last ≡ byte → ⊥) →
    rest ≡ without_end (λ b. b == byte) text
byte_stays byte text rest front last was e other =
    let no : (last == byte) ≡ false = grind (arith, nat_tests) in
    e ∙ sym (end_stays (λ b. b == byte) front last no) ∙ (rw e at was)
