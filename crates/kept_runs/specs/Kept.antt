-- Runs that are kept for the versions so far.
use Rattle.std.specs.Prelude.{◌≡◌, ℕ, zero, suc, List, [], ◌∷◌, map, get_or}
use Rattle.dataset_types.specs.declared.slot.Slot.{Slot}
use Rattle.cell_model.specs.declared.cell.Cell.{Cell}
use Rattle.cell_model.specs.declared.cell_result.CellResult.{CellResult}
use Rattle.cell_model.specs.declared.run.Policy.{Policy}
use Rattle.cell_model.specs.declared.run.Ran.{Ran}
use Rattle.cell_model.specs.declared.run.Ran.TheVariants as ran
use Rattle.cell_model.specs.Runs.{StepData, run_of}
use Rattle.cell_model.specs.Trails.{cells_of}

-- what contracts see of kept runs: the policy, and the cells of each version
pub record KeptData : Type 0 where
  pub policy : Policy
  pub versions : List (List Cell)

-- the cells of the version with a number, from 1 on; there are none in version 0
abbrev pub cells_at : List (List Cell) → ℕ → List Cell
cells_at versions zero = []
cells_at versions (suc i) = get_or versions i []

-- each is the serial run of its cells
abbrev pub AllRuns : (Cell → (List ℕ → Slot) → CellResult) → Policy → List (List StepData) → Type 0
AllRuns meaning p [] = Unit {0}
AllRuns meaning p (t ∷ ts) = (t ≡ run_of meaning p (cells_of t)) × AllRuns meaning p ts

-- the run was done
abbrev pub IsDone : Ran → Type 0
IsDone (ran.Done steps) = Unit {0}
IsDone (ran.Starved position) = ⊥
