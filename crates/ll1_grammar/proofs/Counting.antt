-- In a table that passes the test each alternative is the entry for its kind.
use Rattle.std.proofs.Common.{◌≡◌, ℕ, zero, suc, ◌<◌, Bool, true, false, List, [], ◌∷◌, length, get_or, Some, refl, sym, ap, subst, arith}
use Rattle.std.specs.Prelude.{not, ◌==◌, if◌then◌else◌}
use Rattle.std.proofs.lemmas.Bool.Decides.{nat_tests}
use Rattle.ll1_grammar.specs.Table.{entry}
use Rattle.ll1_grammar.specs.Test.{member, distinct, kinds_of}
use Rattle.ll1_grammar.specs.Laws.{AlternativesCount}
use Rattle.ll1_grammar.proofs.Booleans.{or_left, or_right, and_left, and_right, no_both}
use Rattle.ll1_grammar.proofs.Tested.{same_number, not_true, sides}

same_itself : (k : ℕ) → k == k ≡ true
same_itself k = grind (arith, nat_tests)

-- the kind of an alternative is among the kinds
kind_there : {B : Type 0} (ps : List (ℕ × B)) (p : ℕ × B) (i : ℕ) → i < length ps → get_or ps i p ≡ p → member p.0 (kinds_of ps) ≡ true
kind_there [] p i lt e = absurd (omega arith)
kind_there (q ∷ ps) p zero lt e = or_left (p.0 == q.0) _ (subst (λ (n : ℕ). p.0 == n ≡ true) (sym (ap (λ x. x.0) e)) (same_itself p.0))
kind_there (q ∷ ps) p (suc i) lt e = or_right (p.0 == q.0) _ (kind_there ps p i (omega arith) e)

-- where no kind is there twice, an alternative is the entry for its kind
entry_there : {B : Type 0} (ps : List (ℕ × B)) (p : ℕ × B) (i : ℕ) → i < length ps → get_or ps i p ≡ p → distinct (kinds_of ps) ≡ true → entry p.0 ps ≡ Some p.1
entry_there [] p i lt e d = absurd (omega arith)
entry_there {B = B} (q ∷ ps) p zero lt e d = go (p.0 == q.0) (subst (λ (n : ℕ). p.0 == n ≡ true) (sym (ap (λ x. x.0) e)) (same_itself p.0))
  where
    go : (b : Bool) → b ≡ true → (if b then Some q.1 else entry p.0 ps) ≡ Some p.1
    go true f = ap (λ (x : ℕ × B). Some x.1) e
    go false f = cc
entry_there {B = B} (q ∷ ps) p (suc i) lt e d = go (entry_there ps p i (omega arith) e (and_right (not (member q.0 (kinds_of ps))) _ d)) (p.0 == q.0) refl
  where
    there : member p.0 (kinds_of ps) ≡ true
    there = kind_there ps p i (omega arith) e

    apart : member q.0 (kinds_of ps) ≡ false
    apart = not_true (member q.0 (kinds_of ps)) (and_left (not (member q.0 (kinds_of ps))) _ d)

    go : entry p.0 ps ≡ Some p.1 → (b : Bool) → p.0 == q.0 ≡ b → (if b then Some q.1 else entry p.0 ps) ≡ Some p.1
    go later true f = absurd (no_both (member q.0 (kinds_of ps)) (subst (λ (n : ℕ). member n (kinds_of ps) ≡ true) (same_number p.0 q.0 f) there) apart)
    go later false f = later

module _ {R A : Type 0} where
  pub alternatives_count : AlternativesCount R A
  alternatives_count table h fine r kind items there = entry_there (table.alternatives r) (kind, items) there.0 there.1 there.2 (sides table h r (fine r)).kinds
