-- Load cells, which read a CSV file.
use Rattle.std.specs.Prelude.{ℕ, List, Ok, Err}
use Rattle.dataset_types.specs.Tables.{TableData}
use Rattle.cell_errors.specs.Answers.{Answer}
use Rattle.cell_model.specs.declared.cell_result.CellResult.{CellResult}
use Rattle.cell_model.specs.declared.cell_result.CellStatus.TheVariants as status
use Rattle.cell_model.specs.Runs.{bare}
use Rattle.cell_kinds.specs.Make.{make_result}

-- the file's table under the name, without doubt, or the error
abbrev pub load_result : List ℕ → Answer TableData → CellResult
load_result name (Ok table) = make_result name table
load_result name (Err e) = bare (status.Error e)
