-- `move_row`: a row put after another, or first.
use Rattle.std.specs.Prelude.{ℕ, not, ◌&&◌, ◌||◌, Bool, if◌then◌else◌, Option, List}
use Rattle.dataset_types.specs.declared.row.Row.{Row}
use Rattle.dataset_types.specs.Tables.{TableData, table_of}
use Rattle.dataset_types.specs.Plain.{PlainTable}
use Rattle.caveat_marks.specs.Shown.{ShownRows, InOrder, ById, ShownTable, values_at}
use Rattle.cell_errors.specs.Answers.{Answer, and_then}
use Rattle.edit_results.specs.Results.{whole, plain_whole}
use Rattle.row_edits.specs.Rows.{is_itself, put, moved}
use Rattle.row_edits.specs.Ids.{row_id, plain_id, shown_id}
use Rattle.row_edits.specs.Insert.{is_unsure, is_hidden}

-- whether it is put after another row that is unsure
abbrev pub follows_unsure : List ℕ → Option (List ℕ) → List Row → Bool
follows_unsure row place rows = not (is_itself row place) && is_unsure place rows

-- after another row that is unsure the order is uncertain
abbrev pub row_moved : TableData → List ℕ → Option (List ℕ) → Answer TableData
row_moved t row place =
    and_then (moved row_id row place t.rows) (λ rows.
    whole (table_of t.columns rows t.is_open (t.is_loose || follows_unsure row place t.rows)))

-- ---- without marks

-- the row after another, or first
abbrev pub plain_row_moved : PlainTable → List ℕ → Option (List ℕ) → Answer PlainTable
plain_row_moved t row place =
    and_then (moved plain_id row place t.rows) (λ rows. plain_whole (record { columns = t.columns; rows = rows }))

-- ---- over what is shown

-- whether it is put after another row that isn't shown
abbrev pub is_lost : List ℕ → Option (List ℕ) → ShownRows → Bool
is_lost row place rows = not (is_itself row place) && is_hidden place rows

-- where the order is certain, the row in its new place if it is shown
abbrev pub move_shown : Bool → List ℕ → Option (List ℕ) → ShownRows → ShownRows
move_shown lost row place (InOrder rows) = if lost then ById (values_at rows) else InOrder (put shown_id row place rows)
move_shown lost row place (ById f) = ById f

-- the order is uncertain after another row that is not shown
abbrev pub shown_row_moved : ShownTable → List ℕ → Option (List ℕ) → ShownTable
shown_row_moved t row place = record {
  columns = t.columns;
  rows = move_shown (is_lost row place t.rows) row place t.rows;
  is_open = t.is_open;
  is_loose = t.is_loose || is_lost row place t.rows;
}
