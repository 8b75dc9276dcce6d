-- Records of runs, and when one is valid.
use Rattle.std.specs.Prelude.{ℕ, List}
use Rattle.dataset_types.specs.declared.slot.Slot.{Slot}
use Rattle.dataset_types.specs.declared.slot.Named.{Named}
use Rattle.cell_model.specs.declared.cell.Cell.{Cell}
use Rattle.cell_model.specs.declared.cell_result.CellResult.{CellResult}
use Rattle.cell_model.specs.Works.{Fixes}

-- what is recorded of one run
pub record RecordData : Type 0 where
  pub cell : Cell
  pub reads : List Named
  pub result : CellResult

-- its reads fix what the cell gives and reads: this result, and these names
abbrev pub IsValid : (Cell → (List ℕ → Slot) → CellResult) → (Cell → (List ℕ → Slot) → List (List ℕ)) → RecordData → Type 0
IsValid meaning asks r = Fixes (meaning r.cell) (asks r.cell) r.reads r.result
