-- Whole results: their rules, and where they are within the limits.
use Rattle.std.specs.Prelude.{◌≡◌, false, IsTrue, if◌then◌else◌, Ok, Err}
use Rattle.dataset_types.specs.Tables.{TableData, Distinct, column_names, row_ids, rows_fit, all_sure, within_limits}
use Rattle.dataset_types.specs.Plain.{PlainTable, plain_within}
use Rattle.cell_errors.specs.Answers.{Answer}
use Rattle.cell_errors.specs.declared.fault.CellError.TheVariants as error

-- the rules of a dataset, but for its limits
pub record KeepsRules (t : TableData) : Type 0 where
  pub names : Distinct (column_names t.columns)
  pub ids : Distinct (row_ids t.rows)
  pub fitting : IsTrue (rows_fit t.columns t.rows)
  pub sure : t.is_open ≡ false → IsTrue (all_sure t.rows)

-- the dataset, where it is within the limits
abbrev pub whole : TableData → Answer TableData
whole t = if within_limits t then Ok t else Err error.TooLarge

-- the same without marks
abbrev pub plain_whole : PlainTable → Answer PlainTable
plain_whole t = if plain_within t then Ok t else Err error.TooLarge
