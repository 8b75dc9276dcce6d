-- A loop over a step that is `collect`.
use Rattle.std.proofs.Common.{◌≡◌, ℕ, ◌+◌, ◌<◌, ◌≤◌, length, drop, get_or, ap, sym, Ok, Err, List, [], ◌∷◌, ◌++◌, refl, ◌∙◌, append_assoc, append-nil}
use Rattle.std.proofs.lemmas.List.{drop_more, drop_all}
use Rattle.cell_errors.specs.Answers.{Answer, and_then, collect, Fails}
use Rattle.cell_errors.specs.declared.fault.CellError.{CellError}
use Rattle.cell_errors.specs.declared.fault.EvalFault.{EvalFault}
use Rattle.cell_errors.specs.declared.fault.EvalFault.TheVariants as fault

-- those before, and after them what the rest gives
unfoldable pub rest_of : {X Y : Type 0} → List Y → (X → Answer Y) → List X → Answer (List Y)
rest_of ys f xs = and_then (collect f xs) (λ zs. Ok (ys ++ zs))

module _ {X Y : Type 0} (f : X → Answer Y) where
  pub begun : (xs : List X) → collect f xs ≡ rest_of [] f xs
  unfolding rest_of
  begun xs = start (collect f xs)
    where
      start : (a : Answer (List Y)) → a ≡ and_then a (λ c. Ok ([] ++ c))
      start (Ok c) = refl
      start (Err e) = refl

  pub went_on : (ys : List Y) (y : Y) (xs rest : List X) (x : X) → xs ≡ x ∷ rest → f x ≡ Ok y → rest_of ys f xs ≡ rest_of (ys ++ y ∷ []) f rest
  unfolding rest_of
  went_on ys y xs rest x e k = rw (e, k) (turn (collect f rest))
    where
      turn : (a : Answer (List Y)) → and_then (and_then a (λ c. Ok (y ∷ c))) (λ c. Ok (ys ++ c)) ≡ and_then a (λ c. Ok ((ys ++ y ∷ []) ++ c))
      turn (Ok c) = rw append_assoc refl
      turn (Err e) = refl

  pub stopped : (ys : List Y) (xs rest : List X) (x : X) (e : CellError) → xs ≡ x ∷ rest → f x ≡ Err e → rest_of ys f xs ≡ Err e
  unfolding rest_of
  stopped ys xs rest x e k h = rw (k, h) refl

  pub ended : (ys : List Y) (xs : List X) → xs ≡ [] → rest_of ys f xs ≡ Ok ys
  unfolding rest_of
  ended ys xs e = rw (e, append-nil) refl

  -- the same over a slice
  pub went_on_at : (ys : List Y) (y : Y) (xs : List X) (i : ℕ) (x : X) → i < length xs → x ≡ get_or xs i x → f x ≡ Ok y →
      rest_of ys f (drop i xs) ≡ rest_of (ys ++ y ∷ []) f (drop (i + 1) xs)
  went_on_at ys y xs i x h e k = went_on ys y (drop i xs) (drop (i + 1) xs) x (drop_more xs i x h ∙ ap (λ z. z ∷ drop (i + 1) xs) (sym e)) k

  pub ended_at : (ys : List Y) (xs : List X) (i : ℕ) → length xs ≤ i → rest_of ys f (drop i xs) ≡ Ok ys
  ended_at ys xs i h = ended ys (drop i xs) (drop_all i xs h)

  -- the error of one is that of all
  pub stops : (whole : Answer (List Y)) (ys : List Y) (xs rest : List X) (x : X) (f' : EvalFault) → whole ≡ rest_of ys f xs → xs ≡ x ∷ rest →
      Fails f' (f x) → Fails f' whole
  stops whole ys xs rest x (fault.Error e) w k h = w ∙ stopped ys xs rest x e k h
  stops whole ys xs rest x fault.NoMemory w k h = tt

  pub stops_at : (whole : Answer (List Y)) (ys : List Y) (xs : List X) (i : ℕ) (x : X) (f' : EvalFault) → whole ≡ rest_of ys f (drop i xs) → i < length xs →
      x ≡ get_or xs i x → Fails f' (f x) → Fails f' whole
  stops_at whole ys xs i x f' w l e h = stops whole ys (drop i xs) (drop (i + 1) xs) x f' w (drop_more xs i x l ∙ ap (λ z. z ∷ drop (i + 1) xs) (sym e)) h

-- what the proof of a loop uses
pub ruleset collecting = (begun, went_on, went_on_at, ended, ended_at)
