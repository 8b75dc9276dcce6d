-- A work whose cells do nothing, for the test.
use Rattle.std.specs.Prelude.{◌≡◌, ℕ, List, []}
use Rattle.std.proofs.Common.{refl}
use Rattle.dataset_types.specs.declared.slot.Slot.{Slot}
use Rattle.cell_model.specs.declared.cell.Cell.{Cell}
use Rattle.cell_model.specs.declared.cell_result.CellResult.{CellResult}
use Rattle.cell_model.specs.declared.cell_result.CellStatus.TheVariants as status
use Rattle.cell_model.specs.declared.work.Estimate.{Estimate}
use Rattle.cell_model.specs.Runs.{bare, IsBare}

-- done, with nothing
abbrev pub idle_meaning : Cell → (List ℕ → Slot) → CellResult
idle_meaning cell look = bare status.Ok

-- it reads no name
abbrev pub idle_names : Cell → (List ℕ → Slot) → List (List ℕ)
idle_names cell look = []

-- and may read and write none
abbrev pub idle_estimate : Cell → Estimate
idle_estimate cell = record { reads = []; writes = [] }

pub idle_is_bare : (cell : Cell) (look : List ℕ → Slot) → IsBare (idle_meaning cell look)
idle_is_bare cell look = λ e. refl
