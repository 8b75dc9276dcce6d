-- `set_value`: another value in a row's column.
use Rattle.std.specs.Prelude.{ℕ, false, if◌then◌else◌, Option, Some, option_map, Ok, Err, List, slice_set}
use Rattle.value_types.specs.declared.row_id.RowId.{RowId}
use Rattle.value_types.specs.declared.value.Value.{Value}
use Rattle.dataset_types.specs.declared.row.Row.{Row}
use Rattle.dataset_types.specs.Tables.{TableData, table_of}
use Rattle.dataset_types.specs.Plain.{PlainRow, PlainTable}
use Rattle.caveat_marks.specs.Shown.{ShownRow, ShownRows, InOrder, ById, ShownTable}
use Rattle.cell_errors.specs.Answers.{Answer, and_then}
use Rattle.cell_errors.specs.declared.fault.CellError.TheVariants as error
use Rattle.edit_results.specs.Results.{whole, plain_whole}
use Rattle.row_edits.specs.ByText.{is_text, is_there, changed_at}
use Rattle.row_edits.specs.Columns.{find_column, value_for}
use Rattle.row_edits.specs.Ids.{row_id, plain_id, shown_id}

-- a row with a value, unmarked, at a place that counts from 0
abbrev pub with_value : ℕ → Value → Row → Row
with_value at v r = record { id = r.id; sure = r.sure; values = slice_set r.values at (record { value = v; marked = false }) }

-- the value where the row is there, as one of the column's type
abbrev pub value_set : TableData → List ℕ → List ℕ → Value → Answer TableData
value_set t row column v =
    and_then (find_column t.columns column) (λ found.
    if is_there row_id row t.rows then
    and_then (value_for found.kind v) (λ w.
    whole (table_of t.columns (changed_at row_id row (with_value found.place w) t.rows) t.is_open t.is_loose))
    else Err error.NoRow)

-- ---- without marks

-- a row with a value at a place
abbrev pub with_plain : ℕ → Value → PlainRow → PlainRow
with_plain at v r = record { id = r.id; values = slice_set r.values at v }

-- the value where the row is there, as one of the column's type
abbrev pub plain_value_set : PlainTable → List ℕ → List ℕ → Value → Answer PlainTable
plain_value_set t row column v =
    and_then (find_column t.columns column) (λ found.
    if is_there plain_id row t.rows then
    and_then (value_for found.kind v) (λ w.
    plain_whole (record { columns = t.columns; rows = changed_at plain_id row (with_plain found.place w) t.rows }))
    else Err error.NoRow)

-- ---- over what is shown

-- values with one at a place
abbrev pub set_known : ℕ → Value → List (Option Value) → List (Option Value)
set_known at v vs = slice_set vs at (Some v)

-- a row with a value at a place
abbrev pub with_known : ℕ → Value → ShownRow → ShownRow
with_known at v r = record { id = r.id; values = set_known at v r.values }

-- the values of each id, those of this text with the new one
abbrev pub set_text : List ℕ → ℕ → Value → (RowId → Option (List (Option Value))) → RowId → Option (List (Option Value))
set_text text at v f i = if is_text text i then option_map (set_known at v) (f i) else f i

-- the row of a text with a value at a place, in order or by its id
abbrev pub set_shown : List ℕ → ℕ → Value → ShownRows → ShownRows
set_shown row at v (InOrder rows) = InOrder (changed_at shown_id row (with_known at v) rows)
set_shown row at v (ById f) = ById (set_text row at v f)

-- a value, or another where there is an error
abbrev pub given_or : {A : Type 0} → A → Answer A → A
given_or other (Ok a) = a
given_or other (Err e) = other

-- the value as one of the column's type; what is shown stays where there is an error
abbrev pub shown_value_set : ShownTable → List ℕ → List ℕ → Value → ShownTable
shown_value_set t row column v =
    given_or t (and_then (find_column t.columns column) (λ found.
    and_then (value_for found.kind v) (λ w.
    Ok (record { columns = t.columns; rows = set_shown row found.place w t.rows; is_open = t.is_open; is_loose = t.is_loose }))))
