-- The laws of `delete_row`, and the rules of its result.
use Rattle.std.proofs.Common.{◌≡◌, ℕ, Bool, true, false, not, Ok, List, map, filter, refl, subst, ap, ◌∙◌, sym}
use Rattle.std.specs.Prelude.{if◌then◌else◌, None}
use Rattle.value_types.specs.declared.row_id.RowId.{RowId}
use Rattle.cell_errors.specs.Answers.{and_then}
use Rattle.dataset_types.specs.declared.row.Row.{Row}
use Rattle.dataset_types.specs.Tables.{TableData, IsTable, table_of, row_fits}
use Rattle.dataset_types.specs.Plain.{erased_row}
use Rattle.dataset_types.proofs.TableLemmas.{Distinct-filter}
use Rattle.caveat_marks.specs.Shown.{ById, shown, shown_row, values_at, placed}
use Rattle.relations.specs.Shown.{sure_rows}
use Rattle.relations.proofs.Gathered.{then_ok, the_same}
use Rattle.edit_results.specs.Results.{KeepsRules, whole, plain_whole}
use Rattle.edit_results.proofs.Whole.{whole_is, whole_table}
use Rattle.row_edits.specs.ByText.{is_text, without, is_there}
use Rattle.row_edits.specs.Rows.{deleted}
use Rattle.row_edits.specs.Ids.{row_id, plain_id, shown_id}
use Rattle.row_edits.specs.Delete.{row_deleted, without_text, delete_shown, shown_row_deleted}
use Rattle.row_edits.specs.Laws.{DeleteErases, DeleteShows, DeleteKeepsShown, DeleteKeepsRules}
use Rattle.row_edits.proofs.PutIn.{all_filter}
use Rattle.row_edits.proofs.Mapped.{without_map, deleted_map}
use Rattle.row_edits.proofs.Sures.{Values, without_filter, values_filter}
use Rattle.row_edits.proofs.Results.{if_ok, rows_erased, keeps_shown}

deleted_ok : (row : List ℕ) (rows out : List Row) → deleted row_id row rows ≡ Ok out → without row_id row rows ≡ out
deleted_ok row rows out e =
    let p = if_ok (is_there row_id row rows) (Ok (without row_id row rows)) _ out e in the_same (without row_id row rows) out p.1

-- ---- the rules

pub delete_rules : (t : TableData) (row : List ℕ) (rows : List Row) → IsTable t → deleted row_id row t.rows ≡ Ok rows → KeepsRules (table_of t.columns rows t.is_open t.is_loose)
delete_rules t row rows is e =
    let p = λ (r : Row). not (is_text row r.id) in
    subst (λ rs. KeepsRules (table_of t.columns rs t.is_open t.is_loose)) (deleted_ok row t.rows rows e) (record {
      names = is.names;
      ids = Distinct-filter (λ r. r.id) p t.rows is.ids;
      fitting = all_filter p (row_fits t.columns) t.rows is.fitting;
      sure = λ o. all_filter p (λ r. r.sure) t.rows (is.sure o);
    })

pub delete_table : (row : List ℕ) → DeleteKeepsRules row
delete_table row t out is e =
    let p = then_ok (deleted row_id row t.rows) (λ rows. whole (table_of t.columns rows t.is_open t.is_loose)) out e in
    whole_table (table_of t.columns p.0 t.is_open t.is_loose) out (delete_rules t row p.0 is p.1) p.2

-- ---- erasure

pub delete_erases : (row : List ℕ) → DeleteErases row
delete_erases row t =
    rows_erased t.columns t.is_open t.is_loose (deleted row_id row t.rows)
    ∙ ap (λ a. and_then a (λ rows. plain_whole (record { columns = t.columns; rows = rows }))) (deleted_map row_id plain_id erased_row (λ r. refl) row t.rows)

-- ---- what is shown

module _ (row : List ℕ) (t : TableData) where
  -- what is shown of the rows that stay is what stays of what is shown
  sures : sure_rows (without row_id row t.rows) ≡ without shown_id row (sure_rows t.rows)
  sures =
      ap (map shown_row) (sym (without_filter row_id (λ r. r.sure) row t.rows))
      ∙ sym (without_map row_id shown_id shown_row (λ r. refl) row (filter (λ r. r.sure) t.rows))

  turned : (b : Bool) (v : Values) → (if not b then v else None) ≡ (if b then None else v)
  turned true v = refl
  turned false v = refl

  at_id : (i : RowId) → values_at (without shown_id row (sure_rows t.rows)) i ≡ without_text row (values_at (sure_rows t.rows)) i
  at_id i = values_filter (λ j. not (is_text row j)) (sure_rows t.rows) i ∙ turned (is_text row i) (values_at (sure_rows t.rows) i)

  in_place : (l : Bool) → placed l (without shown_id row (sure_rows t.rows)) ≡ delete_shown row (placed l (sure_rows t.rows))
  in_place true = λ k. ById (λ i. at_id i k)
  in_place false = refl

  shows : shown (table_of t.columns (without row_id row t.rows) t.is_open t.is_loose) ≡ shown_row_deleted (shown t) row
  shows =
      let rows = ap (placed t.is_loose) sures ∙ in_place t.is_loose in
      λ i. record { columns = t.columns; rows = rows i; is_open = t.is_open; is_loose = t.is_loose }

pub delete_shows : (row : List ℕ) → DeleteShows row
delete_shows row t out is e =
    let p = then_ok (deleted row_id row t.rows) (λ rows. whole (table_of t.columns rows t.is_open t.is_loose)) out e in
    subst (λ x. shown x ≡ shown_row_deleted (shown t) row)
    (ap (λ rs. table_of t.columns rs t.is_open t.is_loose) (deleted_ok row t.rows p.0 p.1) ∙ whole_is (table_of t.columns p.0 t.is_open t.is_loose) out p.2)
    (shows row t)

-- ---- other picks

pub delete_keeps : (row : List ℕ) → DeleteKeepsShown row
delete_keeps row = keeps_shown (λ t. row_deleted t row) (λ t. shown_row_deleted t row) (delete_shows row)
