-- Relations: their parts, their rules and their limits.
use Rattle.std.specs.Prelude.{◌≡◌, ◌&&◌, if◌then◌else◌, length, map, List, Bool, false, IsTrue, Option, Ok, Err}
use Rattle.cell_errors.specs.Answers.{Answer}
use Rattle.cell_errors.specs.declared.fault.CellError.TheVariants as error
use Rattle.dataset_types.specs.declared.column.Column.{Column}
use Rattle.dataset_types.specs.declared.row.Row.{Row}
use Rattle.dataset_types.specs.Tables.{TableData, table_of, within_limits as table_limits, Distinct, row_ids, rows_fit, all_sure, text_bytes, ids_short, few_rows, few_values, few_bytes}
use Rattle.expr_meaning.specs.declared.bindings.ScopeColumn.{ScopeColumn}
use Rattle.expr_meaning.specs.Names.{Name}

-- what contracts see of a relation
pub record RelData : Type 0 where
  pub columns : List ScopeColumn
  pub rows : List Row
  pub is_open : Bool
  pub is_loose : Bool

-- the relation of these parts
abbrev pub rel_of : List ScopeColumn → List Row → Bool → Bool → RelData
rel_of columns rows is_open is_loose = record { columns = columns; rows = rows; is_open = is_open; is_loose = is_loose }

-- the qualifier and the name of a column
abbrev pub column_key : ScopeColumn → Option Name × Name
column_key c = (c.qualifier, c.column.name)

-- what columns are told apart by
abbrev pub column_keys : List ScopeColumn → List (Option Name × Name)
column_keys columns = map column_key columns

-- the columns without their qualifiers
abbrev pub bare_columns : List ScopeColumn → List Column
bare_columns columns = map (λ c. c.column) columns

-- the rules of a dataset, with columns that are told apart by qualifier and name
pub record KeepsRules (r : RelData) : Type 0 where
  pub names : Distinct (column_keys r.columns)
  pub ids : Distinct (row_ids r.rows)
  pub fitting : IsTrue (rows_fit (bare_columns r.columns) r.rows)
  pub sure : r.is_open ≡ false → IsTrue (all_sure r.rows)

-- a dataset's limits, but for that of columns
abbrev pub within_limits : RelData → Bool
within_limits r =
    few_rows (length r.rows)
    && few_values (length r.rows) (length r.columns)
    && few_bytes (text_bytes r.rows)
    && ids_short r.rows

-- the rules and limits that every relation keeps
pub record IsRel (r : RelData) : Type 0 where
  pub rules : KeepsRules r
  pub limits : IsTrue (within_limits r)

-- the whole result of a step, where it is within the limits
abbrev pub whole : RelData → Answer RelData
whole r = if within_limits r then Ok r else Err error.TooLarge

-- a column of a dataset under a qualifier
abbrev pub qualified : Option Name → Column → ScopeColumn
qualified qualifier c = record { qualifier = qualifier; column = c }

-- a dataset as a relation, its columns under a qualifier
abbrev pub table_rel : Option Name → TableData → RelData
table_rel qualifier t = rel_of (map (qualified qualifier) t.columns) t.rows t.is_open t.is_loose

-- a relation as a dataset, its columns without their qualifiers, where it is within the limits of one
abbrev pub rel_table : RelData → Answer TableData
rel_table r =
    let t = table_of (bare_columns r.columns) r.rows r.is_open r.is_loose in if table_limits t then Ok t else Err error.TooLarge
