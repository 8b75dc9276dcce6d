-- A loop over a step that is `folded`.
use Rattle.std.proofs.Common.{◌≡◌, ℕ, ◌+◌, ◌<◌, ◌≤◌, length, drop, get_or, ap, sym, Ok, List, [], ◌∷◌, refl, ◌∙◌}
use Rattle.std.proofs.lemmas.List.{drop_more, drop_all}
use Rattle.cell_errors.specs.Answers.{Answer, Fails}
use Rattle.cell_errors.specs.declared.fault.EvalFault.{EvalFault}
use Rattle.cell_errors.specs.declared.fault.EvalFault.TheVariants as fault
use Rattle.sql_plan.specs.Folds.{folded}

module _ {A X : Type 0} (f : A → X → Answer A) where
  pub went_on : (a b : A) (xs rest : List X) (x : X) → xs ≡ x ∷ rest → f a x ≡ Ok b → folded f a xs ≡ folded f b rest
  went_on a b xs rest x e k = rw (e, k) refl

  pub ended : (a : A) (xs : List X) → xs ≡ [] → folded f a xs ≡ Ok a
  ended a xs e = rw e refl

  -- the error of one is that of all
  pub stops : (whole : Answer A) (a : A) (xs rest : List X) (x : X) (d : EvalFault) → whole ≡ folded f a xs → xs ≡ x ∷ rest → Fails d (f a x) → Fails d whole
  stops whole a xs rest x (fault.Error e) w k h = w ∙ rw (k, h) refl
  stops whole a xs rest x fault.NoMemory w k h = tt

  -- the same over a slice
  pub went_on_at : (a b : A) (xs : List X) (i : ℕ) (x : X) → i < length xs → x ≡ get_or xs i x → f a x ≡ Ok b →
      folded f a (drop i xs) ≡ folded f b (drop (i + 1) xs)
  went_on_at a b xs i x h e k = went_on a b (drop i xs) (drop (i + 1) xs) x (drop_more xs i x h ∙ ap (λ z. z ∷ drop (i + 1) xs) (sym e)) k

  pub ended_at : (a : A) (xs : List X) (i : ℕ) → length xs ≤ i → folded f a (drop i xs) ≡ Ok a
  ended_at a xs i h = ended a (drop i xs) (drop_all i xs h)

  pub stops_at : (whole : Answer A) (a : A) (xs : List X) (i : ℕ) (x : X) (d : EvalFault) → whole ≡ folded f a (drop i xs) → i < length xs →
      x ≡ get_or xs i x → Fails d (f a x) → Fails d whole
  stops_at whole a xs i x d w l e h = stops whole a (drop i xs) (drop (i + 1) xs) x d w (drop_more xs i x l ∙ ap (λ z. z ∷ drop (i + 1) xs) (sym e)) h

-- what the proof of a loop uses
pub ruleset folding = (went_on, ended, went_on_at, ended_at)
