-- The serial run of a list of cells under a policy, step by step.
use Rattle.std.specs.Prelude.{◌≡◌, ℕ, zero, suc, ◌||◌, List, [], ◌∷◌, Bool, true, false, if◌then◌else◌}
use Rattle.dataset_types.specs.declared.slot.Slot.{Slot}
use Rattle.dataset_types.specs.Envs.{EnvData, look, set_slots, blur_slots, empty_env}
use Rattle.cell_model.specs.declared.cell.Cell.{Cell}
use Rattle.cell_model.specs.declared.cell_result.CellResult.{CellResult}
use Rattle.cell_model.specs.declared.cell_result.CellStatus.{CellStatus}
use Rattle.cell_model.specs.declared.cell_result.CellStatus.TheVariants as status
use Rattle.cell_model.specs.declared.run.Policy.{Policy}
use Rattle.cell_model.specs.declared.run.Policy.TheVariants as policy

-- whether a status is `ok`
abbrev pub is_ok : CellStatus → Bool
is_ok status.Ok = true
is_ok (status.Error e) = false
is_ok status.Blocked = false

-- a status with no lines, no writes and no blur
abbrev pub bare : CellStatus → CellResult
bare s = record { status = s; lines = []; writes = []; blur = false }

-- a result that isn't ok has no lines, no writes and no blur
abbrev pub IsBare : CellResult → Type 0
IsBare r = is_ok r.status ≡ false → r ≡ bare r.status

-- whether the cells after a status are run: under `stop` only after `ok`, under `carry` always
abbrev pub goes_on : Policy → CellStatus → Bool
goes_on policy.Stop s = is_ok s
goes_on policy.Carry s = true

-- the environment after a result: blurred first, where it blurs, and then with its writes
abbrev pub after_cell : EnvData → CellResult → EnvData
after_cell env r = record { slots = set_slots (blur_slots r.blur env.slots) r.writes; blurred = r.blur || env.blurred }

-- what contracts see of a step of a run: a cell, its result, and the environment after it
pub record StepData : Type 0 where
  pub cell : Cell
  pub result : CellResult
  pub env : EnvData

-- the result of a cell: what it means where the run goes on, else `blocked`
abbrev pub next_result : (Cell → (List ℕ → Slot) → CellResult) → Bool → EnvData → Cell → CellResult
next_result meaning going env cell = if going then meaning cell (look env) else bare status.Blocked

-- the step of a cell with this result, after an environment
abbrev pub step_by : EnvData → Cell → CellResult → StepData
step_by env cell r = record { cell = cell; result = r; env = after_cell env r }

-- the step of a cell after an environment, where the run goes on or not
abbrev pub step : (Cell → (List ℕ → Slot) → CellResult) → Bool → EnvData → Cell → StepData
step meaning going env cell = step_by env cell (next_result meaning going env cell)

-- the steps of the cells, one after another, from an environment on
abbrev pub run_from : (Cell → (List ℕ → Slot) → CellResult) → Policy → Bool → EnvData → List Cell → List StepData
run_from meaning p going env [] = []
run_from meaning p going env (cell ∷ cells) =
    let s = step meaning going env cell in
    s ∷ run_from meaning p (goes_on p s.result.status) s.env cells

-- the serial run: from the empty environment
abbrev pub run_of : (Cell → (List ℕ → Slot) → CellResult) → Policy → List Cell → List StepData
run_of meaning p cells = run_from meaning p true empty_env cells

-- the environment after these steps
abbrev pub env_after : EnvData → List StepData → EnvData
env_after env [] = env
env_after env (s ∷ steps) = env_after s.env steps

-- the run goes on after each of the first n steps
abbrev pub Reaches : Policy → ℕ → List StepData → Type 0
Reaches p zero steps = Unit {0}
Reaches p (suc n) [] = Unit {0}
Reaches p (suc n) (s ∷ steps) = (goes_on p s.result.status ≡ true) × Reaches p n steps
