-- Make cells, which hold a literal dataset.
use Rattle.std.specs.Prelude.{ℕ, List, [], ◌∷◌, Some, false}
use Rattle.dataset_types.specs.Tables.{TableData}
use Rattle.cell_model.specs.declared.cell_result.CellResult.{CellResult}
use Rattle.cell_model.specs.declared.cell_result.CellStatus.TheVariants as status

-- the table under the name, without doubt
abbrev pub make_result : List ℕ → TableData → CellResult
make_result name table = record { status = status.Ok; lines = []; writes = record { name = name; slot = record { table = Some table; doubt = false } } ∷ []; blur = false }
