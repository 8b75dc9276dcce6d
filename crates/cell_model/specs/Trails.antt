-- The first steps of a run, and how it goes on from them.
use Rattle.std.specs.Prelude.{◌≡◌, ◌≤◌, ℕ, List, [], ◌∷◌, map, length, take, Bool, true}
use Rattle.dataset_types.specs.declared.slot.Slot.{Slot}
use Rattle.dataset_types.specs.Envs.{empty_env}
use Rattle.cell_model.specs.declared.cell.Cell.{Cell}
use Rattle.cell_model.specs.declared.cell_result.CellResult.{CellResult}
use Rattle.cell_model.specs.declared.run.Policy.{Policy}
use Rattle.cell_model.specs.Runs.{StepData, step, goes_on, run_of, env_after}

-- the cells of these steps
abbrev pub cells_of : List StepData → List Cell
cells_of steps = map (λ s. s.cell) steps

-- their results
abbrev pub results_of : List StepData → List CellResult
results_of steps = map (λ s. s.result) steps

-- whether the cell after these steps is run
abbrev pub going_after : Policy → Bool → List StepData → Bool
going_after p going [] = going
going_after p going (s ∷ steps) = going_after p (goes_on p s.result.status) steps

-- the step of a cell after these steps
abbrev pub next_of : (Cell → (List ℕ → Slot) → CellResult) → Policy → List StepData → Cell → StepData
next_of meaning p steps cell = step meaning (going_after p true steps) (env_after empty_env steps) cell

-- these steps are the run of the first cells of a list, as many as there are steps
pub record Follows (meaning : Cell → (List ℕ → Slot) → CellResult) (p : Policy) (steps : List StepData) (cells : List Cell) : Type 0 where
  pub fits : length steps ≤ length cells
  pub runs : steps ≡ run_of meaning p (take (length steps) cells)
