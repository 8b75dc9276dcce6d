-- Results: without marks, and what shows the same.
use Rattle.std.proofs.Common.{◌≡◌, Bool, true, false, Ok, Err, List, map, refl, ap, ◌∙◌, sym}
use Rattle.std.specs.Prelude.{if◌then◌else◌}
use Rattle.std.specs.Result.{result_map_both}
use Rattle.cell_errors.specs.Answers.{Answer, and_then}
use Rattle.cell_errors.specs.declared.fault.CellError.{CellError}
use Rattle.dataset_types.specs.declared.column.Column.{Column}
use Rattle.dataset_types.specs.declared.row.Row.{Row}
use Rattle.dataset_types.specs.Tables.{TableData, table_of}
use Rattle.dataset_types.specs.Plain.{erased, erased_row}
use Rattle.caveat_marks.specs.Shown.{ShownTable}
use Rattle.edit_results.specs.Results.{whole, plain_whole}
use Rattle.edit_results.proofs.Whole.{whole_erased}
use Rattle.row_edits.specs.Laws.{Shows, KeepsShown}

-- an answer under a test
pub if_ok : {A : Type 0} (b : Bool) (a : Answer A) (e : CellError) (out : A) → (if b then a else Err e) ≡ Ok out → (b ≡ true) × (a ≡ Ok out)
if_ok true a e out k = (refl, k)
if_ok false a e out k = cc

-- a result of rows that are answered, without its marks and flags
pub rows_erased : (columns : List Column) (is_open is_loose : Bool) (a : Answer (List Row)) →
    result_map_both erased (λ e. e) (and_then a (λ rows. whole (table_of columns rows is_open is_loose)))
    ≡ and_then (result_map_both (map erased_row) (λ e. e) a) (λ rows. plain_whole (record { columns = columns; rows = rows }))
rows_erased columns is_open is_loose (Ok rows) = whole_erased (table_of columns rows is_open is_loose)
rows_erased columns is_open is_loose (Err e) = refl

-- where a command shows what it makes of what is shown, equal datasets show equal results
pub keeps_shown : (step : TableData → Answer TableData) (shown_step : ShownTable → ShownTable) → Shows step shown_step → KeepsShown step
keeps_shown step shown_step shows a b x y is too e k l = shows a x is k ∙ (ap shown_step e ∙ sym (shows b y too l))
