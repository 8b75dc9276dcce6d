-- A loop over a step that is `gathered`: what has come so far, and then the rest.
use Rattle.std.proofs.Common.{◌≡◌, ℕ, ◌+◌, ◌<◌, ◌≤◌, length, drop, get_or, Ok, Err, List, [], ◌∷◌, refl, ap, sym, ◌∙◌, append_assoc, append-nil}
use Rattle.std.proofs.lemmas.List.{drop_more, drop_all}
use Rattle.std.proofs.Math.Bool.{or-false, or_assoc}
use Rattle.cell_errors.specs.Answers.{Answer, and_then, Fails}
use Rattle.cell_errors.specs.declared.fault.CellError.{CellError}
use Rattle.cell_errors.specs.declared.fault.EvalFault.{EvalFault}
use Rattle.cell_errors.specs.declared.fault.EvalFault.TheVariants as fault
use Rattle.relations.specs.declared.batch.Batch.{Batch}
use Rattle.relations.specs.Batches.{nothing, both, gathered}

-- a batch, and after it what is made of the rest
unfoldable pub resumed : {X : Type 0} → Batch → (X → Answer Batch) → List X → Answer Batch
resumed b f xs = and_then (gathered f xs) (λ c. Ok (both b c))

module _ {X : Type 0} (f : X → Answer Batch) where
  pub begun : (xs : List X) → gathered f xs ≡ resumed nothing f xs
  unfolding resumed
  begun xs = start (gathered f xs)
    where
      start : (a : Answer Batch) → a ≡ and_then a (λ c. Ok (both nothing c))
      start (Ok c) = refl
      start (Err e) = refl

  pub went_on : (b y : Batch) (xs rest : List X) (x : X) → xs ≡ x ∷ rest → f x ≡ Ok y → resumed b f xs ≡ resumed (both b y) f rest
  unfolding resumed
  went_on b y xs rest x e k = rw (e, k) (turn (gathered f rest))
    where
      turn : (a : Answer Batch) → and_then (and_then a (λ c. Ok (both y c))) (λ c. Ok (both b c)) ≡ and_then a (λ c. Ok (both (both b y) c))
      turn (Ok c) = rw (sym (or_assoc b.marked y.marked c.marked), append_assoc) refl
      turn (Err e) = refl

  pub stopped : (b : Batch) (xs rest : List X) (x : X) (e : CellError) → xs ≡ x ∷ rest → f x ≡ Err e → resumed b f xs ≡ Err e
  unfolding resumed
  stopped b xs rest x e k h = rw (k, h) refl

  pub ended : (b : Batch) (xs : List X) → xs ≡ [] → resumed b f xs ≡ Ok b
  unfolding resumed
  ended b xs e = rw (e, append-nil, or-false b.marked) refl

  -- the same over a slice
  pub went_on_at : (b y : Batch) (xs : List X) (i : ℕ) (x : X) → i < length xs → x ≡ get_or xs i x → f x ≡ Ok y →
      resumed b f (drop i xs) ≡ resumed (both b y) f (drop (i + 1) xs)
  went_on_at b y xs i x h e k = went_on b y (drop i xs) (drop (i + 1) xs) x (drop_more xs i x h ∙ ap (λ z. z ∷ drop (i + 1) xs) (sym e)) k

  pub ended_at : (b : Batch) (xs : List X) (i : ℕ) → length xs ≤ i → resumed b f (drop i xs) ≡ Ok b
  ended_at b xs i h = ended b (drop i xs) (drop_all i xs h)

  -- the error of one is that of all
  pub stops : (whole : Answer Batch) (b : Batch) (xs rest : List X) (x : X) (f' : EvalFault) → whole ≡ resumed b f xs → xs ≡ x ∷ rest →
      Fails f' (f x) → Fails f' whole
  stops whole b xs rest x (fault.Error e) w k h = w ∙ stopped b xs rest x e k h
  stops whole b xs rest x fault.NoMemory w k h = tt

  pub stops_at : (whole : Answer Batch) (b : Batch) (xs : List X) (i : ℕ) (x : X) (f' : EvalFault) → whole ≡ resumed b f (drop i xs) → i < length xs →
      x ≡ get_or xs i x → Fails f' (f x) → Fails f' whole
  stops_at whole b xs i x f' w l e h = stops whole b (drop i xs) (drop (i + 1) xs) x f' w (drop_more xs i x l ∙ ap (λ z. z ∷ drop (i + 1) xs) (sym e)) h

-- what the proof of a loop uses
pub ruleset gathering = (begun, went_on, went_on_at, ended, ended_at)
