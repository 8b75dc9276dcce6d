-- `delete_row`: a dataset without a row.
use Rattle.std.specs.Prelude.{ℕ, if◌then◌else◌, Option, None, List}
use Rattle.value_types.specs.declared.row_id.RowId.{RowId}
use Rattle.value_types.specs.declared.value.Value.{Value}
use Rattle.dataset_types.specs.Tables.{TableData, table_of}
use Rattle.dataset_types.specs.Plain.{PlainTable}
use Rattle.caveat_marks.specs.Shown.{ShownRows, InOrder, ById, ShownTable}
use Rattle.cell_errors.specs.Answers.{Answer, and_then}
use Rattle.edit_results.specs.Results.{whole, plain_whole}
use Rattle.row_edits.specs.ByText.{is_text, without}
use Rattle.row_edits.specs.Rows.{deleted}
use Rattle.row_edits.specs.Ids.{row_id, plain_id, shown_id}

-- an open dataset stays open
abbrev pub row_deleted : TableData → List ℕ → Answer TableData
row_deleted t row =
    and_then (deleted row_id row t.rows) (λ rows. whole (table_of t.columns rows t.is_open t.is_loose))

-- ---- without marks

-- the others, in their order
abbrev pub plain_row_deleted : PlainTable → List ℕ → Answer PlainTable
plain_row_deleted t row =
    and_then (deleted plain_id row t.rows) (λ rows. plain_whole (record { columns = t.columns; rows = rows }))

-- ---- over what is shown

-- the values of each id but those of this text
abbrev pub without_text : List ℕ → (RowId → Option (List (Option Value))) → RowId → Option (List (Option Value))
without_text text f i = if is_text text i then None else f i

-- in their order, those of other texts; by their ids, the values of those
abbrev pub delete_shown : List ℕ → ShownRows → ShownRows
delete_shown row (InOrder rows) = InOrder (without shown_id row rows)
delete_shown row (ById f) = ById (without_text row f)

-- the rows that are shown without it; an open dataset stays open
abbrev pub shown_row_deleted : ShownTable → List ℕ → ShownTable
shown_row_deleted t row = record { columns = t.columns; rows = delete_shown row t.rows; is_open = t.is_open; is_loose = t.is_loose }
