-- What the functions inside the crate answer.
use Rattle.std.specs.Prelude.{◌≡◌, ◌≤◌, ◌++◌, true, false, ◌+◌, ◌&&◌, ℕ, if◌then◌else◌, Bool, List, [], ◌∷◌, length, Result, Ok, Err, IsTrue, Option, Some, None}
use Rattle.std.specs.Borrow.{Bor}
use Rattle.csv.specs.declared.reader.Reader.{Reader}
use Rattle.value_types.specs.Names.{is_name}
use Rattle.value_types.specs.declared.value.ColumnType.{ColumnType}
use Rattle.dataset_types.specs.declared.column.Column.{Column}
use Rattle.dataset_types.specs.declared.row.Row.{Row}
use Rattle.dataset_types.specs.Tables.{few_rows, few_values}
use Rattle.cell_errors.specs.declared.fault.CellError.{CellError}
use Rattle.cell_errors.specs.declared.fault.CellError.TheVariants as error
use Rattle.cell_errors.specs.declared.fault.EvalFault.{EvalFault}
use Rattle.cell_errors.specs.declared.fault.EvalFault.TheVariants as fault
use Rattle.cell_errors.specs.Answers.{Fails}
use Rattle.csv_load.specs.declared.row.Body.{Body}
use Rattle.csv_load.specs.declared.field.Repairs.{Repairs as RepairsOf}
use Rattle.csv_load.specs.Fields.{Repairs}
use Rattle.csv_load.specs.Rows.{Numbered, has_row, row_of, rows_of, some_surplus}
use Rattle.csv_load.specs.Load.{records_of, table_in, limited}
use Rattle.csv_load.specs.Reading.{IsReading, left_of}

-- how sites are settled, as definitions have it
abbrev pub repairs_of : RepairsOf → Repairs
repairs_of r = record { repair = r.repair; picks = r.picks.now; cell = r.cell }

-- a name with room for `_` and a number
pub record IsBase (name : List ℕ) : Type 0 where
  pub valid : IsTrue (is_name name)
  pub short : length name ≤ 26

-- the rows of these records and whether one is surplus
pub record IsBody (r : Repairs) (columns : List Column) (rs : List (List (List ℕ))) (body : Body) : Type 0 where
  pub rows : body.rows ≡ rows_of r columns rs
  pub open_flag : body.is_open ≡ some_surplus (length columns) rs
  pub counted : length rs ≤ 4294967295

-- the rows of these records, or why there is no table of them
abbrev pub GivesBody : Repairs → List Column → List (List (List ℕ)) → Result Body EvalFault → Type 0
GivesBody r columns rs (Ok body) = IsBody r columns rs body
GivesBody r columns rs (Err f) = Fails f (limited rs (table_in r columns rs))

-- a `_` after a text that isn't empty, where it goes on apart
abbrev pub link : List ℕ → Bool → List ℕ
link [] apart = []
link (b ∷ bs) apart = if apart then 95 ∷ [] else []

-- whether a table with so many rows and columns is within their limits with a row more
abbrev pub has_room : ℕ → ℕ → Bool
has_room rows width = few_rows (rows + 1) && few_values (rows + 1) width

-- the row of a record, if it has one
abbrev pub rows_for : Repairs → List Column → Numbered → List Row
rows_for r columns p = if has_row r (length columns) p then row_of r columns p ∷ [] else []

-- a limit is passed: the record has a row, for which there is no room
pub record IsFull (r : Repairs) (columns : List Column) (p : Numbered) (rows : List Row) (e : CellError) : Type 0 where
  pub too_large : e ≡ error.TooLarge
  pub has : has_row r (length columns) p ≡ true
  pub full : has_room (length rows) (length columns) ≡ false

-- rows with the row of a record after them, or why not
abbrev pub AddsRow : Repairs → List Column → Numbered → List Row → List Row → Result (Unit {0}) EvalFault → Type 0
AddsRow r columns p old new (Ok done) = new ≡ old ++ rows_for r columns p
AddsRow r columns p old new (Err fault.NoMemory) = Unit {0}
AddsRow r columns p old new (Err (fault.Error e)) = IsFull r columns p old e

-- a column of a name and a type
abbrev pub column_named : List ℕ × ColumnType → Column
column_named p = record { name = p.0; kind = p.1 }

-- the file has no record, or the reader stands after its header
abbrev pub IsPastHeader : List ℕ → List (List ℕ) → Option (Reader (Bor (List ℕ))) → Type 0
IsPastHeader bytes header None = records_of bytes ≡ []
IsPastHeader bytes header (Some reader) =
    IsReading (λ s. Some s.now) reader × (records_of bytes ≡ header ∷ left_of (λ s. Some s.now) reader)
