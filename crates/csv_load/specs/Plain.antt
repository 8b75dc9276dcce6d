-- What a load gives without marks and flags.
use Rattle.std.specs.Prelude.{ℕ, ◌&&◌, nat_le, if◌then◌else◌, List, [], ◌∷◌, length, map, Option, Ok, Err, filter}
use Rattle.value_types.specs.declared.value.ColumnType.{ColumnType}
use Rattle.value_types.specs.declared.row_id.RowId.{Rec}
use Rattle.dataset_types.specs.declared.load_options.Repair.{Repair}
use Rattle.dataset_types.specs.declared.picks.Pick.{Pick}
use Rattle.dataset_types.specs.declared.column.Column.{Column}
use Rattle.dataset_types.specs.Plain.{PlainRow, PlainTable, plain_within}
use Rattle.cell_errors.specs.Answers.{Answer}
use Rattle.cell_errors.specs.declared.fault.CellError.TheVariants as error
use Rattle.csv_load.specs.Guess.{columns_of}
use Rattle.csv_load.specs.Fields.{Repairs, field_value}
use Rattle.csv_load.specs.Rows.{Numbered, numbered, has_row, by_columns}
use Rattle.csv_load.specs.Load.{records_of}

-- the row of a record
abbrev pub plain_row_of : Repairs → List Column → Numbered → PlainRow
plain_row_of r columns p = record { id = Rec p.0; values = by_columns (field_value r) columns p }

-- the rows of the records that have one, under these columns
abbrev pub plain_table_in : Repairs → List Column → List (List (List ℕ)) → PlainTable
plain_table_in r columns rs = record {
  columns = columns;
  rows = map (plain_row_of r columns) (filter (has_row r (length columns)) (numbered rs));
}

-- within the limits of a table and of the records' numbers
abbrev pub plain_limited : List (List (List ℕ)) → PlainTable → Answer PlainTable
plain_limited rs t = if nat_le (length rs) 4294967295 && plain_within t then Ok t else Err error.TooLarge

-- the plain table of a file's records: the first is the header
abbrev pub plain_from : Repairs → List (Option ColumnType) → List (List (List ℕ)) → Answer PlainTable
plain_from r types [] = Err error.NoHeader
plain_from r types (header ∷ rs) = plain_limited rs (plain_table_in r (columns_of types header rs) rs)

-- what a file gives: its plain table, or why there is none
unfoldable pub plain_load_of : List ℕ → List (Option ColumnType) → Repair → List Pick → ℕ → Answer PlainTable
plain_load_of bytes types repair picks cell =
    plain_from (record { repair = repair; picks = picks; cell = cell }) types (records_of bytes)
