-- The laws of the commands that lay columns out anew.
use Rattle.std.proofs.Common.{◌≡◌, Bool, true, false, Option, Some, Ok, Err, List, [], ◌∷◌, map, cond, filter, refl, ap, ◌∙◌, sym}
use Rattle.std.specs.Result.{result_map_both}
use Rattle.value_types.specs.declared.value.Value.{Value}
use Rattle.value_types.specs.declared.value.Value.TheVariants.{Null}
use Rattle.cell_errors.specs.Answers.{Answer, and_then}
use Rattle.dataset_types.specs.declared.column.Column.{Column}
use Rattle.dataset_types.specs.declared.row.Row.{Row}
use Rattle.dataset_types.specs.Tables.{TableData}
use Rattle.dataset_types.specs.Plain.{erased, erased_row}
use Rattle.caveat_marks.specs.Shown.{ShownRow, ShownTable, shown, shown_row, shown_value, placed, ById}
use Rattle.relations.proofs.ByIds.{map_by_id}
use Rattle.relations.proofs.Gathered.{fine, the_same, then_ok}
use Rattle.edit_results.specs.Results.{whole, plain_whole}
use Rattle.edit_results.proofs.Whole.{whole_erased, whole_is}
use Rattle.column_edits.specs.declared.layout.LaidColumn.{LaidColumn}
use Rattle.column_edits.specs.Layout.{columns_of, laid}
use Rattle.column_edits.specs.Changes.{blank, laid_row, laid_out, changed, plain_laid_row, plain_laid_out, with_values, shown_with, shown_changed}
use Rattle.column_edits.specs.Laws.{Shows, KeepsShown, ChangeErases, ChangeShows, ChangeKeepsShown}
use Rattle.column_edits.proofs.Laying.{laid_read}

-- ---- erasure

module _ (layout : List LaidColumn) where
  rows_erased : (rows : List Row) → map erased_row (map (laid_row layout blank) rows) ≡ map (plain_laid_row layout Null) (map erased_row rows)
  rows_erased [] = refl
  rows_erased (r ∷ rs) =
      let one = laid_read (λ m. m.value) blank layout r.values in
      let more = rows_erased rs in λ i. record { id = r.id; values = one i } ∷ more i

  layout_erased : (t : TableData) → erased (laid_out layout t) ≡ plain_laid_out layout (erased t)
  layout_erased t = let rows = rows_erased t.rows in λ i. record { columns = columns_of layout; rows = rows i }

pub change_erases : (plan : List Column → Answer (List LaidColumn)) → ChangeErases plan
change_erases plan t = at (plan t.columns)
  where
    at : (a : Answer (List LaidColumn)) → result_map_both erased (λ e. e) (and_then a (λ layout. whole (laid_out layout t)))
        ≡ and_then a (λ layout. plain_whole (plain_laid_out layout (erased t)))
    at (Ok layout) = whole_erased (laid_out layout t) ∙ ap plain_whole (layout_erased layout t)
    at (Err e) = refl

-- ---- what is shown

-- rows with other values, as they are placed
pub with_placed : (f : List (Option Value) → List (Option Value)) (is_loose : Bool) (rows : List ShownRow) →
    with_values f (placed is_loose rows) ≡ placed is_loose (map (λ r. record { id = r.id; values = f r.values }) rows)
with_placed f false rows = refl
with_placed f true rows = λ k. ById (λ i. sym (map_by_id f rows i) k)

-- the rows of a table that are sure, as they are shown
abbrev pub sure_rows : List Row → List ShownRow
sure_rows rows = map shown_row (filter (λ r. r.sure) rows)

module _ (layout : List LaidColumn) where
  rows_shown : (rows : List Row) → sure_rows (map (laid_row layout blank) rows) ≡ map (λ r. record { id = r.id; values = laid (Some Null) layout r.values }) (sure_rows rows)
  rows_shown [] = refl
  rows_shown (r ∷ rs) = by r.sure (rows_shown rs)
    where
      by : (b : Bool) → sure_rows (map (laid_row layout blank) rs) ≡ map (λ x. record { id = x.id; values = laid (Some Null) layout x.values }) (sure_rows rs) →
          map shown_row (cond b (laid_row layout blank r ∷ filter (λ x. x.sure) (map (laid_row layout blank) rs)) (filter (λ x. x.sure) (map (laid_row layout blank) rs)))
          ≡ map (λ x. record { id = x.id; values = laid (Some Null) layout x.values }) (map shown_row (cond b (r ∷ filter (λ x. x.sure) rs) (filter (λ x. x.sure) rs)))
      by true more = let one = laid_read shown_value blank layout r.values in λ i. record { id = r.id; values = one i } ∷ more i
      by false more = more

  layout_shown : (t : TableData) → shown_with (columns_of layout) (laid (Some Null) layout) (shown t) ≡ shown (laid_out layout t)
  layout_shown t =
      let rows = with_placed (laid (Some Null) layout) t.is_loose (sure_rows t.rows) ∙ ap (placed t.is_loose) (sym (rows_shown t.rows)) in
      λ i. record { columns = columns_of layout; rows = rows i; is_open = t.is_open; is_loose = t.is_loose }

pub change_shows : (plan : List Column → Answer (List LaidColumn)) → ChangeShows plan
change_shows plan t out e =
    let p = then_ok (plan t.columns) (λ layout. whole (laid_out layout t)) out e in
    ap (λ a. and_then a (λ layout. fine (shown_with (columns_of layout) (laid (Some Null) layout) (shown t)))) p.1
    ∙ (ap fine (layout_shown p.0 t) ∙ ap (λ z. fine (shown z)) (whole_is (laid_out p.0 t) out p.2))

-- ---- other picks

-- a command that shows what it makes of what is shown gives results that show the same
pub keeps_shown : (command other : TableData → Answer TableData) (over : ShownTable → Answer ShownTable) → Shows command over → Shows other over → KeepsShown command other
keeps_shown command other over shows also a b x y e k l = the_same (shown x) (shown y) (sym (shows a x k) ∙ (ap over e ∙ also b y l))

pub change_keeps_shown : (plan : List Column → Answer (List LaidColumn)) → ChangeKeepsShown plan
change_keeps_shown plan = keeps_shown (changed plan) (changed plan) (shown_changed plan) (change_shows plan) (change_shows plan)
