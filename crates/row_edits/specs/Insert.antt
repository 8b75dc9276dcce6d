-- `insert_row`: a sure row of unmarked NULLs after a row, or first.
use Rattle.std.specs.Prelude.{ℕ, not, ◌||◌, Bool, true, false, if◌then◌else◌, Option, Some, None, List, [], ◌∷◌, map}
use Rattle.std.specs.List.{list_any}
use Rattle.value_types.specs.declared.row_id.RowId.{RowId, Named}
use Rattle.value_types.specs.declared.value.Value.{Value}
use Rattle.value_types.specs.declared.value.Value.TheVariants.{Null}
use Rattle.value_types.specs.SameIds.{same_id}
use Rattle.dataset_types.specs.declared.column.Column.{Column}
use Rattle.dataset_types.specs.declared.row.Marked.{Marked}
use Rattle.dataset_types.specs.declared.row.Row.{Row}
use Rattle.dataset_types.specs.Tables.{TableData, table_of}
use Rattle.dataset_types.specs.Plain.{PlainRow, PlainTable}
use Rattle.caveat_marks.specs.Shown.{ShownRow, ShownRows, InOrder, ById, ShownTable, values_at}
use Rattle.cell_errors.specs.Answers.{Answer, and_then}
use Rattle.edit_results.specs.Results.{whole, plain_whole}
use Rattle.row_edits.specs.ByText.{only, is_place, after}
use Rattle.row_edits.specs.Rows.{inserted}
use Rattle.row_edits.specs.Ids.{row_id, plain_id, shown_id}

-- an unmarked NULL for each column
abbrev pub nulls : List Column → List Marked
nulls columns = map (λ _. record { value = Null; marked = false }) columns

-- the new row
abbrev pub null_row : List ℕ → List Column → Row
null_row name columns = record { id = Named name; sure = true; values = nulls columns }

-- whether one of the rows is unsure
abbrev pub any_unsure : List Row → Bool
any_unsure rows = list_any (λ r. not r.sure) rows

-- whether the row that is named is unsure
abbrev pub is_unsure : Option (List ℕ) → List Row → Bool
is_unsure None rows = false
is_unsure (Some text) rows = any_unsure (only row_id text rows)

-- after an unsure row the order is uncertain
abbrev pub row_inserted : TableData → List ℕ → Option (List ℕ) → Answer TableData
row_inserted t name place =
    and_then (inserted row_id (null_row name t.columns) place t.rows) (λ rows.
    whole (table_of t.columns rows t.is_open (t.is_loose || is_unsure place t.rows)))

-- ---- without marks

-- the new row
abbrev pub plain_null_row : List ℕ → List Column → PlainRow
plain_null_row name columns = record { id = Named name; values = map (λ _. Null) columns }

-- the new row after a row, or first
abbrev pub plain_row_inserted : PlainTable → List ℕ → Option (List ℕ) → Answer PlainTable
plain_row_inserted t name place =
    and_then (inserted plain_id (plain_null_row name t.columns) place t.rows) (λ rows.
    plain_whole (record { columns = t.columns; rows = rows }))

-- ---- over what is shown

-- the new row
abbrev pub shown_null_row : List ℕ → List Column → ShownRow
shown_null_row name columns = record { id = Named name; values = map (λ _. Some Null) columns }

-- whether the row that is named isn't shown, where rows are shown in their order
abbrev pub is_hidden : Option (List ℕ) → ShownRows → Bool
is_hidden place (InOrder rows) = not (is_place shown_id place rows)
is_hidden place (ById f) = false

-- the values of a row under its id, and any others as they were
abbrev pub with_row : ShownRow → (RowId → Option (List (Option Value))) → RowId → Option (List (Option Value))
with_row new f i = if same_id new.id i then Some new.values else f i

-- after a row that isn't shown the order isn't either
abbrev pub insert_shown : Bool → ShownRow → Option (List ℕ) → ShownRows → ShownRows
insert_shown hidden new place (InOrder rows) =
    if hidden then ById (with_row new (values_at rows)) else InOrder (after shown_id place (new ∷ []) rows)
insert_shown hidden new place (ById f) = ById (with_row new f)

-- the new row is shown; the order is uncertain after a row that is not
abbrev pub shown_row_inserted : ShownTable → List ℕ → Option (List ℕ) → ShownTable
shown_row_inserted t name place = record {
  columns = t.columns;
  rows = insert_shown (is_hidden place t.rows) (shown_null_row name t.columns) place t.rows;
  is_open = t.is_open;
  is_loose = t.is_loose || is_hidden place t.rows;
}
