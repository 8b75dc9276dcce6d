-- Make cells in JSON (docs/FORMATS.md, "Edit lines").
use Rattle.std.specs.Prelude.{ℕ, suc, ◌&&◌, List, [], ◌∷◌, length, codes, Bool, true, false, nat_le, if◌then◌else◌}
use Rattle.std.specs.Prelude.{Option, Some, None, option_map, option_and_then}
use Rattle.serde_json.specs.Data.{Data, Items, no_items, item}
use Rattle.serde_json.specs.Find.{as_array}
use Rattle.value_types.specs.declared.value.Value.{Value}
use Rattle.value_types.specs.declared.row_id.RowId.TheVariants as id
use Rattle.dataset_types.specs.Fitting.{fitted}
use Rattle.dataset_types.specs.Tables.{TableData, few_columns, names_apart, table_of, within_limits}
use Rattle.dataset_types.specs.declared.column.Column.{Column}
use Rattle.dataset_types.specs.declared.row.Marked.{Marked}
use Rattle.dataset_types.specs.declared.row.Row.{Row}
use Rattle.cell_model.specs.declared.cell.CellKind.{CellKind}
use Rattle.cell_model.specs.declared.cell.CellKind.TheVariants as cell
use Rattle.json_fields.specs.Json.{with_members, field, all_of}
use Rattle.json_fields.specs.Values.{name_in, value_of}
use Rattle.json_fields.specs.Columns.{column_in}

-- ---- columns

-- 1 to 32 columns of distinct names
abbrev pub is_heading : List Column → Bool
is_heading columns = nat_le 1 (length columns) && few_columns (length columns) && names_apart columns

-- the columns of an array, where they are a heading
abbrev pub heading_of : Items → Option (List Column)
heading_of ds = option_and_then (λ columns. if is_heading columns then Some columns else None) (all_of column_in ds)

-- ---- rows

-- a value without a caveat
abbrev pub certain : Value → Marked
certain v = record { value = v; marked = false }

-- one value a column, each fitted to its type
abbrev pub values_of : List Column → Items → Option (List Marked)
values_of [] no_items = Some []
values_of [] (item d ds) = None
values_of (c ∷ cs) no_items = None
values_of (c ∷ cs) (item d ds) =
    option_and_then (λ v. option_map (λ vs. certain v ∷ vs) (values_of cs ds))
    (option_and_then (fitted c.kind) (value_of d))

-- the row of a number, which is sure
abbrev pub row_of : List Column → ℕ → Data → Option Row
row_of columns n d =
    option_map (λ vs. record { id = id.Rec n; sure = true; values = vs })
    (option_and_then (values_of columns) (as_array d))

-- rows, numbered from n on
abbrev pub rows_from : List Column → ℕ → Items → Option (List Row)
rows_from columns n no_items = Some []
rows_from columns n (item d ds) =
    option_and_then (λ row. option_map (λ rows. row ∷ rows) (rows_from columns (suc n) ds)) (row_of columns n d)

-- ---- the table

-- the closed table in certain order, where it is within the limits of a dataset
abbrev pub limited : List Column → List Row → Option TableData
limited columns rows =
    if within_limits (table_of columns rows false false) then Some (table_of columns rows false false) else None

-- the table of a heading and of rows under it
abbrev pub table_from : Items → Items → Option TableData
table_from heads ds =
    option_and_then (λ columns. option_and_then (limited columns) (rows_from columns 1 ds)) (heading_of heads)

-- the table of the fields `columns` and `rows`
abbrev pub table_in : Data → Option TableData
table_in d =
    option_and_then (λ heads. option_and_then (table_from heads) (field as_array (codes "rows") d))
    (field as_array (codes "columns") d)

-- a make cell: its fields are `make`, `columns` and `rows`
unfoldable pub make_of : Data → Option CellKind
make_of d =
    with_members 3 d
    (option_and_then (λ name. option_map (cell.Make name) (table_in d)) (field name_in (codes "make") d))
