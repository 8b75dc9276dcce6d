-- Texts without the spaces at their ends.
use Rattle.std.proofs.Common.{◌≡◌, ◌≢◌, ℕ, Bool, true, false, List, [], ◌∷◌, ◌++◌, refl, ap, arith}
use Rattle.std.specs.Prelude.{◌==◌}
use Rattle.std.proofs.lemmas.Bool.Decides.{nat_tests}
use Rattle.expr_ops.specs.Texts.{onto, without_front, without_end}

pub front_goes : (bs rest : List ℕ) → bs ≡ 32 ∷ rest → without_front bs ≡ without_front rest
front_goes bs rest e = rw e refl

pub front_stays : (bs : List ℕ) → ((rest : List ℕ) → bs ≢ 32 ∷ rest) → without_front bs ≡ bs
front_stays [] none = refl
front_stays (b ∷ bs) none =
    let other : b ≢ 32 = λ e. none bs (ap (λ x. x ∷ bs) e) in
    let no : (b == 32) ≡ false = grind (arith, nat_tests) in rw no refl

onto_more : (t : Bool) (b c : ℕ) (bs : List ℕ) → onto t b (c ∷ bs) ≡ b ∷ c ∷ bs
onto_more true b c bs = refl
onto_more false b c bs = refl

space_goes : (front : List ℕ) → without_end (front ++ (32 ∷ [])) ≡ without_end front
space_goes [] = refl
space_goes (b ∷ front) = rw (space_goes front) refl

pub end_goes : (bs front : List ℕ) → bs ≡ front ++ (32 ∷ []) → without_end bs ≡ without_end front
end_goes bs front e = rw e (space_goes front)

pub end_stays : (bs : List ℕ) → ((front : List ℕ) → bs ≢ front ++ (32 ∷ [])) → without_end bs ≡ bs
end_stays [] none = refl
end_stays (b ∷ []) none =
    let other : b ≢ 32 = λ e. none [] (ap (λ x. x ∷ []) e) in
    let no : (b == 32) ≡ false = grind (arith, nat_tests) in rw no refl
end_stays (b ∷ c ∷ bs) none =
    rw (end_stays (c ∷ bs) (λ front e. none (b ∷ front) (ap (λ xs. b ∷ xs) e))) (onto_more (b == 32) b c bs)
