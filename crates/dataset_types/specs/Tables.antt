-- Tables: their parts, their rules and their limits.
use Rattle.std.specs.Prelude.{◌≡◌, ℕ, zero, suc, ◌++◌, ◌+◌, ◌*◌, ◌&&◌, not, ◌==◌, length, map, List, [], ◌∷◌, Bool, true, false, nat_le, IsTrue}
use Rattle.std.specs.Str.{bytes_eq}
use Rattle.std.specs.List.{list_any, list_all, zip, sum_by, Contains}
use Rattle.value_types.specs.Text.{id, parts}
use Rattle.value_types.specs.declared.value.ColumnType.{ColumnType}
use Rattle.value_types.specs.declared.value.ColumnType.TheVariants as kind
use Rattle.value_types.specs.declared.value.Value.{Value}
use Rattle.value_types.specs.declared.value.Value.TheVariants as value
use Rattle.value_types.specs.declared.row_id.RowId.{RowId, Rec}
use Rattle.dataset_types.specs.declared.column.Column.{Column}
use Rattle.dataset_types.specs.declared.row.Marked.{Marked}
use Rattle.dataset_types.specs.declared.row.Row.{Row}

-- what contracts see of a table
pub record TableData : Type 0 where
  pub columns : List Column
  pub rows : List Row
  pub is_open : Bool
  pub is_loose : Bool

-- no item stands twice
abbrev pub Distinct : {A : Type 0} → List A → Type 0
Distinct [] = Unit {0}
Distinct (x ∷ xs) = (Contains xs x → ⊥) × Distinct xs

-- a value of the type, or NULL
abbrev pub fits : Value → ColumnType → Bool
fits value.Null k = true
fits (value.Bool b) kind.Bool = true
fits (value.Int n) kind.Int = true
fits (value.Fixed n) kind.Fixed = true
fits (value.Text t) kind.Text = true
fits v k = false

-- each value fits its column
abbrev pub values_fit : List Column → List Marked → Bool
values_fit columns values = list_all (λ p. fits p.1.value p.0.kind) (zip columns values)

-- one value for each column, of its type
abbrev pub row_fits : List Column → Row → Bool
row_fits columns row = (length row.values == length columns) && values_fit columns row.values

-- the bytes of a value's text, where it is a Text
abbrev pub text_size : Value → ℕ
text_size value.Null = 0
text_size (value.Bool b) = 0
text_size (value.Int n) = 0
text_size (value.Fixed n) = 0
text_size (value.Text t) = length t

-- the bytes of text in a row: its Text values and the text of its id
abbrev pub row_size : Row → ℕ
row_size row = length (id row.id) + sum_by (λ m. text_size m.value) row.values

-- the bytes of text in a list of rows
abbrev pub text_bytes : List Row → ℕ
text_bytes rows = sum_by row_size rows

-- the names of these columns
abbrev pub column_names : List Column → List (List ℕ)
column_names columns = map (λ c. c.name) columns

-- a column of this name stands in the list
abbrev pub is_named : List ℕ → List Column → Bool
is_named name columns = list_any (λ c. bytes_eq name c.name) columns

-- no name stands twice, tested two by two
abbrev pub names_apart : List Column → Bool
names_apart [] = true
names_apart (c ∷ cs) = not (is_named c.name cs) && names_apart cs

-- the ids of these rows
abbrev pub row_ids : List Row → List RowId
row_ids rows = map (λ r. r.id) rows

-- each row has a value for each column, of its type
abbrev pub rows_fit : List Column → List Row → Bool
rows_fit columns rows = list_all (row_fits columns) rows

-- no row is unsure
abbrev pub all_sure : List Row → Bool
all_sure rows = list_all (λ r. r.sure) rows

-- each row's id has at most 8 parts
abbrev pub ids_short : List Row → Bool
ids_short rows = list_all (λ r. nat_le (parts r.id) 8) rows

-- at most 32 columns
abbrev pub few_columns : ℕ → Bool
few_columns columns = nat_le columns 32

-- at most 65,536 rows
abbrev pub few_rows : ℕ → Bool
few_rows rows = nat_le rows 65536

-- at most 65,536 values in so many rows of one width
abbrev pub few_values : ℕ → ℕ → Bool
few_values rows width = nat_le (rows * width) 65536

-- at most 1,048,576 bytes of text
abbrev pub few_bytes : ℕ → Bool
few_bytes bytes = nat_le bytes 1048576

-- the limits of a dataset
abbrev pub within_limits : TableData → Bool
within_limits t =
    few_columns (length t.columns)
    && few_rows (length t.rows)
    && few_values (length t.rows) (length t.columns)
    && few_bytes (text_bytes t.rows)
    && ids_short t.rows

-- the rules and limits that a table keeps
pub record IsTable (t : TableData) : Type 0 where
  pub names : Distinct (column_names t.columns)
  pub ids : Distinct (row_ids t.rows)
  pub fitting : IsTrue (rows_fit t.columns t.rows)
  pub sure : t.is_open ≡ false → IsTrue (all_sure t.rows)
  pub limits : IsTrue (within_limits t)

-- the table of these parts
abbrev pub table_of : List Column → List Row → Bool → Bool → TableData
table_of columns rows is_open is_loose = record { columns = columns; rows = rows; is_open = is_open; is_loose = is_loose }

-- the ids of so many rows that are numbered from 1
abbrev pub numbered : ℕ → List RowId
numbered zero = []
numbered (suc n) = numbered n ++ Rec (suc n) ∷ []
