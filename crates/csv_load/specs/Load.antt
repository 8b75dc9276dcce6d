-- What a load gives: the bytes' records, and the table of them (docs/FORMATS.md, "Loaded files").
use Rattle.std.specs.Prelude.{ℕ, ◌&&◌, nat_le, if◌then◌else◌, List, [], ◌∷◌, length, false, Option, Ok, Err}
use Rattle.csv.specs.Reading.{default_config, records, strip_bom}
use Rattle.value_types.specs.declared.value.ColumnType.{ColumnType}
use Rattle.dataset_types.specs.declared.load_options.Repair.{Repair}
use Rattle.dataset_types.specs.declared.picks.Pick.{Pick}
use Rattle.dataset_types.specs.declared.column.Column.{Column}
use Rattle.dataset_types.specs.Tables.{TableData, table_of, within_limits}
use Rattle.cell_errors.specs.Answers.{Answer}
use Rattle.cell_errors.specs.declared.fault.CellError.TheVariants as error
use Rattle.csv_load.specs.Guess.{columns_of}
use Rattle.csv_load.specs.Fields.{Repairs}
use Rattle.csv_load.specs.Rows.{rows_of, some_surplus}

-- the records of a file, as `csv` gives them after a byte order mark
unfoldable pub records_of : List ℕ → List (List (List ℕ))
records_of bytes = records default_config (strip_bom bytes)

-- the rows of these columns, open where a record is surplus, and never loose
abbrev pub table_in : Repairs → List Column → List (List (List ℕ)) → TableData
table_in r columns rs = table_of columns (rows_of r columns rs) (some_surplus (length columns) rs) false

-- the table of a header and the records after it
abbrev pub loaded : Repairs → List (Option ColumnType) → List (List ℕ) → List (List (List ℕ)) → TableData
loaded r types header rs = table_in r (columns_of types header rs) rs

-- a table within the limits, of at most 4,294,967,295 records, which is as far as their numbers go
abbrev pub limited : List (List (List ℕ)) → TableData → Answer TableData
limited rs t = if nat_le (length rs) 4294967295 && within_limits t then Ok t else Err error.TooLarge

-- the table of a file's records: the first is the header
abbrev pub loaded_from : Repairs → List (Option ColumnType) → List (List (List ℕ)) → Answer TableData
loaded_from r types [] = Err error.NoHeader
loaded_from r types (header ∷ rs) = limited rs (loaded r types header rs)

-- what a file gives: its table, or why there is none
unfoldable pub load_of : List ℕ → List (Option ColumnType) → Repair → List Pick → ℕ → Answer TableData
load_of bytes types repair picks cell =
    loaded_from (record { repair = repair; picks = picks; cell = cell }) types (records_of bytes)
