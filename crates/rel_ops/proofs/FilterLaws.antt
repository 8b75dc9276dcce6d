-- The laws of WHERE.
use Rattle.std.proofs.Common.{◌≡◌, ℕ, Bool, true, false, ◌||◌, Ok, List, [], ◌∷◌, ◌++◌, cond, filter, refl, subst, ap, ◌∙◌, sym}
use Rattle.std.specs.Prelude.{is_none}
use Rattle.std.specs.List.{flat_map, list_any}
use Rattle.std.specs.Result.{result_map_both}
use Rattle.value_types.specs.declared.value.Value.{Value}
use Rattle.cell_errors.specs.Answers.{and_then}
use Rattle.dataset_types.specs.declared.picks.Pick.{Pick}
use Rattle.dataset_types.specs.declared.row.Row.{Row}
use Rattle.dataset_types.specs.Plain.{erased_row}
use Rattle.caveat_marks.specs.Shown.{ShownRow, shown_row}
use Rattle.expr_lang.specs.declared.expr.Expr.{Expr}
use Rattle.expr_meaning.specs.declared.bindings.ScopeColumn.{ScopeColumn}
use Rattle.expr_meaning.specs.Known.{Known}
use Rattle.expr_meaning.specs.Meaning.{marked_over_row, known_over_row}
use Rattle.relations.specs.declared.batch.Batch.{Batch}
use Rattle.relations.specs.Rels.{rel_of, whole}
use Rattle.relations.specs.Bound.{bindings, known_bindings}
use Rattle.relations.specs.Batches.{gathered}
use Rattle.relations.specs.Conditions.{kept_if, known_true, plain_kept}
use Rattle.relations.specs.Plain.{erased_batch, plain_whole}
use Rattle.relations.specs.Shown.{SameShown, sure_rows, shown_rel}
use Rattle.relations.proofs.Binds.{over_plain, over_known}
use Rattle.relations.proofs.Gathered.{then_ok, whole_ok, all_erased, all_shown, show_row, sure_is, ShowsAs}
use Rattle.relations.proofs.Rules.{UnsureOpens, unsure_opens}
use Rattle.relations.proofs.KeptRows.{row_kept, row_shows}
use Rattle.relations.proofs.Erasing.{batch_erased}
use Rattle.relations.proofs.Sames.{same_from, KeepsSame, filter_placed, any_placed}
use Rattle.rel_ops.specs.Filter.{where_row, filtered, plain_where, known_where, shown_filtered}
use Rattle.rel_ops.specs.Laws.{FilterErases, FilterShows, FilterKeepsShown}
use Rattle.rel_ops.proofs.SameLaws.{keeps_shown}

-- ---- erasure

row_erases : (columns : List ScopeColumn) (condition : Expr) (picks : List Pick) (cell : ℕ) (r : Row) →
    result_map_both erased_batch (λ e. e) (where_row columns condition picks cell r) ≡ plain_where columns condition picks cell (erased_row r)
row_erases columns condition picks cell r =
    row_kept r (marked_over_row (bindings columns r.values) picks cell condition)
    ∙ ap (plain_kept (erased_row r)) (over_plain columns r.values picks cell condition)

pub filter_erases : (condition : Expr) → FilterErases condition
filter_erases condition picks cell rel =
    batch_erased rel.columns (λ b. rel.is_open || b.marked) rel.is_loose (gathered (where_row rel.columns condition picks cell) rel.rows)
    ∙ ap (λ a. and_then a (λ rows. plain_whole (record { columns = rel.columns; rows = rows })))
    (all_erased (where_row rel.columns condition picks cell) (plain_where rel.columns condition picks cell) erased_row (row_erases rel.columns condition picks cell) rel.rows)

-- ---- what is shown

flat_filter : {X : Type 0} (p : X → Bool) (xs : List X) → flat_map (λ x. kept_if (p x) x) xs ≡ filter p xs
flat_filter p [] = refl
flat_filter p (x ∷ xs) = at (p x) (flat_filter p xs)
  where
    at : (b : Bool) → flat_map (λ y. kept_if (p y) y) xs ≡ filter p xs → kept_if b x ++ flat_map (λ y. kept_if (p y) y) xs ≡ cond b (x ∷ filter p xs) (filter p xs)
    at true e = ap (λ z. x ∷ z) e
    at false e = e

module _ (columns : List ScopeColumn) (condition : Expr) (picks : List Pick) (cell : ℕ) (is_open : Bool) where
  abbrev passes : ShownRow → Bool
  passes r = known_true (known_where columns condition r)

  abbrev rows_of : ShownRow → List ShownRow
  rows_of r = kept_if (passes r) r

  abbrev mark_of : ShownRow → Bool
  mark_of r = is_none (known_where columns condition r)

  one_shows : (r : Row) (b : Batch) → UnsureOpens is_open r → where_row columns condition picks cell r ≡ Ok b →
      ShowsAs is_open (where_row columns condition picks cell) show_row rows_of mark_of b (show_row r)
  one_shows r b u e =
      row_shows is_open rows_of mark_of (shown_row r) r (marked_over_row (bindings columns r.values) picks cell condition) b
      (ap (λ k. kept_if (known_true k) (shown_row r)) (sym (over_known columns r.values picks cell condition)))
      (ap (λ (k : Known Value). is_none k) (sym (over_known columns r.values picks cell condition))) u e

pub filter_shows : (condition : Expr) → FilterShows condition
filter_shows condition picks cell rel out is e =
    let step = where_row rel.columns condition picks cell in
    let p = then_ok (gathered step rel.rows) (λ b. whole (rel_of rel.columns b.rows (rel.is_open || b.marked) rel.is_loose)) out e in
    let s = all_shown rel.is_open step show_row (rows_of rel.columns condition picks cell rel.is_open) (mark_of rel.columns condition picks cell rel.is_open)
    (UnsureOpens rel.is_open) (one_shows rel.columns condition picks cell rel.is_open) rel.rows p.0
    (unsure_opens rel.is_open rel.rows is.rules.sure) p.1 in
    let rows : sure_rows p.0.rows ≡ filter (passes rel.columns condition picks cell rel.is_open) (sure_rows rel.rows) =
    s.0 ∙ (ap (flat_map (rows_of rel.columns condition picks cell rel.is_open)) (sym (sure_is rel.rows)) ∙ flat_filter (passes rel.columns condition picks cell rel.is_open) (sure_rows rel.rows)) in
    let opens : (rel.is_open || p.0.marked) ≡ (rel.is_open || list_any (mark_of rel.columns condition picks cell rel.is_open) (sure_rows rel.rows)) =
    s.1 ∙ ap (λ z. rel.is_open || list_any (mark_of rel.columns condition picks cell rel.is_open) z) (sym (sure_is rel.rows)) in
    subst (λ z. SameShown (shown_rel z) (shown_filtered (shown_rel rel) condition)) (whole_ok _ out p.2)
    (same_from (shown_rel (rel_of rel.columns p.0.rows (rel.is_open || p.0.marked) rel.is_loose)) (shown_filtered (shown_rel rel) condition)
    (λ i. record { columns = rel.columns; rows = rows i; is_open = opens i; is_loose = rel.is_loose }))

-- ---- other picks

filter_keeps : (condition : Expr) → KeepsSame (λ s. shown_filtered s condition)
filter_keeps condition s rows d g e = record {
  columns = refl;
  rows = filter_placed s.rows rows d g (λ vs. known_true (known_over_row (known_bindings s.columns vs) condition)) s.is_loose e;
  opens = ap (λ b. s.is_open || b) (any_placed s.rows rows d g (λ vs. is_none (known_over_row (known_bindings s.columns vs) condition)) s.is_loose e);
  looses = refl;
}

pub filter_keeps_shown : (condition : Expr) → FilterKeepsShown condition
filter_keeps_shown condition picks others cell =
    keeps_shown (λ r. filtered r condition picks cell) (λ r. filtered r condition others cell) (λ s. shown_filtered s condition)
    (filter_shows condition picks cell) (filter_shows condition others cell) (filter_keeps condition)
