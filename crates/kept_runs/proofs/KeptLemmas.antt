-- Kept runs: the run of a version, its first steps, and one run more.
use Rattle.std.proofs.Common.{◌≡◌, ◌<◌, ◌≤◌, ◌-◌, ◌∙◌, ℕ, zero, suc, List, [], ◌∷◌, ◌++◌, length, map, take, get_or, refl, ap, sym, arith, Result, Ok, Err, IfOk}
use Rattle.std.proofs.lemmas.List.{length-map, get_or-map, get_or_default}
use Rattle.dataset_types.specs.declared.slot.Slot.{Slot}
use Rattle.cell_model.specs.declared.cell.Cell.{Cell}
use Rattle.cell_model.specs.declared.cell_result.CellResult.{CellResult}
use Rattle.cell_model.specs.declared.run.Policy.{Policy}
use Rattle.cell_model.specs.Runs.{StepData, run_of}
use Rattle.cell_model.specs.Trails.{Follows, cells_of}
use Rattle.cell_model.proofs.RunLemmas.{Follows-front, cells_of-run_of, run_of-cells}
use Rattle.kept_runs.specs.Kept.{AllRuns, cells_at}

-- the run of a version
pub run_at : (m : Cell → (List ℕ → Slot) → CellResult) (p : Policy) (ts : List (List StepData)) (i : ℕ) → AllRuns m p ts
    → get_or ts i [] ≡ run_of m p (cells_of (get_or ts i []))
run_at m p [] i a = refl
run_at m p (t ∷ ts) zero a = a.0
run_at m p (t ∷ ts) (suc i) a = run_at m p ts i a.1

-- one run more
pub AllRuns-push : (m : Cell → (List ℕ → Slot) → CellResult) (p : Policy) (ts : List (List StepData)) (t : List StepData) → AllRuns m p ts
    → t ≡ run_of m p (cells_of t) → AllRuns m p (ts ++ t ∷ [])
AllRuns-push m p [] t a is = (is, tt)
AllRuns-push m p (x ∷ ts) t a is = (a.0, AllRuns-push m p ts t a.1 is)

-- the cells of a run are those that it runs
pub cells_again : (m : Cell → (List ℕ → Slot) → CellResult) (p : Policy) (t : List StepData) (cells : List Cell) → t ≡ run_of m p cells → cells_of t ≡ cells
cells_again m p t cells is = ap cells_of is ∙ cells_of-run_of m p cells

-- a run is that of its own cells
pub run_again : (m : Cell → (List ℕ → Slot) → CellResult) (p : Policy) (t : List StepData) (cells : List Cell) → t ≡ run_of m p cells → t ≡ run_of m p (cells_of t)
run_again m p t cells is = run_of-cells m p t cells is

-- the first steps of the run of a version follow all cells that begin as the version's do
pub front_at : {E : Type 0} (r : Result (List StepData) E) (m : Cell → (List ℕ → Slot) → CellResult) (p : Policy) (ts : List (List StepData)) (t : List StepData) (b n : ℕ)
    → (b ≡ 0 → ⊥) → b ≤ length ts → t ≡ get_or ts (b - 1) t → IfOk r (λ f. f ≡ take n t) → AllRuns m p ts
    → (cells : List Cell) → n ≤ length cells → take n (cells_at (map cells_of ts) b) ≡ take n cells → IfOk r (λ f. Follows m p f cells)
front_at (Err e) m p ts t b n some lt at is a cells le same = tt
front_at (Ok f) m p ts t zero n some lt at is a cells le same = absurd (some refl)
front_at (Ok f) m p ts t (suc i) n some lt at is a cells le same =
    let e : suc i - 1 ≡ i = omega arith in
    let in_ts : i < length ts = omega (arith, lt) in
    let here : t ≡ get_or ts i [] = at ∙ ap (λ k. get_or ts k t) e ∙ get_or_default ts i t [] in_ts in
    Follows-front m p t f (cells_of (get_or ts i [])) cells n (here ∙ run_at m p ts i a) is le
    (ap (take n) (sym (get_or-map cells_of ts i [] [] in_ts)) ∙ same)

-- the run of a version has a step for each of its cells
pub long_enough : (ts : List (List StepData)) (t : List StepData) (b n : ℕ) → (b ≡ 0 → ⊥) → b ≤ length ts → t ≡ get_or ts (b - 1) t
    → n ≤ length (cells_at (map cells_of ts) b) → n ≤ length t
long_enough ts t zero n some lt at le = absurd (some refl)
long_enough ts t (suc i) n some lt at le =
    let e : suc i - 1 ≡ i = omega arith in
    let in_ts : i < length ts = omega (arith, lt) in
    let here : t ≡ get_or ts i [] = at ∙ ap (λ k. get_or ts k t) e ∙ get_or_default ts i t [] in_ts in
    let same : length (get_or (map cells_of ts) i []) ≡ length t =
    ap (λ (l : List Cell). length l) (get_or-map cells_of ts i [] [] in_ts ∙ ap cells_of (sym here)) ∙ length-map t (λ (s : StepData). s.cell) in
    omega (arith, le, same)
