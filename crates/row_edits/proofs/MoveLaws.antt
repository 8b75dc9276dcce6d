-- The laws of `move_row`, and the rules of its result.
use Rattle.std.proofs.Common.{◌≡◌, ℕ, Bool, true, false, not, ◌&&◌, ◌||◌, Ok, List, [], ◌∷◌, ◌++◌, map, cond, filter, refl, subst, ap, ◌∙◌, sym}
use Rattle.std.specs.Prelude.{IsTrue, if◌then◌else◌, Option, Some, None}
use Rattle.std.specs.List.{list_all, list_any}
use Rattle.std.proofs.lemmas.Bool.{and_parts}
use Rattle.value_types.specs.declared.row_id.RowId.{RowId}
use Rattle.cell_errors.specs.Answers.{and_then}
use Rattle.dataset_types.specs.declared.row.Row.{Row}
use Rattle.dataset_types.specs.Tables.{TableData, IsTable, table_of, Distinct, row_ids, row_fits}
use Rattle.dataset_types.specs.Plain.{erased_row}
use Rattle.caveat_marks.specs.Shown.{ShownRow, InOrder, ById, shown, shown_row, values_at, placed}
use Rattle.relations.specs.Shown.{sure_rows}
use Rattle.relations.proofs.Gathered.{then_ok, the_same}
use Rattle.relations.proofs.Sames.{by_each_id}
use Rattle.edit_results.specs.Results.{KeepsRules, whole, plain_whole}
use Rattle.edit_results.proofs.Whole.{whole_is, whole_table}
use Rattle.row_edits.specs.ByText.{is_text, only, without, is_there, is_place, place_of, after}
use Rattle.row_edits.specs.Rows.{is_itself, put, moved}
use Rattle.row_edits.specs.Ids.{row_id, plain_id, shown_id}
use Rattle.row_edits.specs.Insert.{is_unsure}
use Rattle.row_edits.specs.Move.{follows_unsure, row_moved, is_lost, move_shown, shown_row_moved}
use Rattle.row_edits.specs.Laws.{MoveErases, MoveShows, MoveKeepsShown, MoveKeepsRules}
use Rattle.row_edits.proofs.PutIn.{put_all, all_filter}
use Rattle.row_edits.proofs.Mapped.{only_map, without_map, moved_map}
use Rattle.row_edits.proofs.Sures.{only_filter, without_filter, by_halves}
use Rattle.row_edits.proofs.Ids.{with_moved, apart, shown_among}
use Rattle.row_edits.proofs.InsertLaws.{after_shown, hidden_is, by_id_put, loose_is}
use Rattle.row_edits.proofs.Results.{if_ok, rows_erased, keeps_shown}

moved_ok : (row : List ℕ) (place : Option (List ℕ)) (rows out : List Row) → moved row_id row place rows ≡ Ok out →
    (is_place row_id place rows ≡ true) × (put row_id row place rows ≡ out)
moved_ok row place rows out e =
    let p = if_ok (is_there row_id row rows && is_place row_id place rows) (Ok (put row_id row place rows)) _ out e in
    ((and_parts (is_there row_id row rows) (is_place row_id place rows) p.0).1, the_same (put row_id row place rows) out p.1)

-- ---- the rules

module _ (row : List ℕ) (place : Option (List ℕ)) (rows : List Row) where
  abbrev taken : List Row
  taken = only row_id row rows

  abbrev others : List Row
  others = without row_id row rows

  abbrev put_if : Bool → List Row
  put_if b = if b then rows else after row_id place taken others

  ids_if : (b : Bool) → Distinct (row_ids rows) → Distinct (row_ids (put_if b))
  ids_if true d = d
  ids_if false d = with_moved (is_text row) (place_of row_id place others) rows d

  all_if : (p : Row → Bool) (b : Bool) → IsTrue (list_all p rows) → IsTrue (list_all p (put_if b))
  all_if p true e = e
  all_if p false e =
      put_all p (place_of row_id place others) taken others (all_filter (λ r. is_text row r.id) p rows e) (all_filter (λ r. not (is_text row r.id)) p rows e)

pub move_rules : (t : TableData) (row : List ℕ) (place : Option (List ℕ)) (rows : List Row) (is_loose : Bool) → IsTable t →
    moved row_id row place t.rows ≡ Ok rows → KeepsRules (table_of t.columns rows t.is_open is_loose)
move_rules t row place rows is_loose is e =
    let b = is_itself row place in
    subst (λ rs. KeepsRules (table_of t.columns rs t.is_open is_loose)) (moved_ok row place t.rows rows e).1 (record {
      names = is.names;
      ids = ids_if row place t.rows b is.ids;
      fitting = all_if row place t.rows (row_fits t.columns) b is.fitting;
      sure = λ o. all_if row place t.rows (λ r. r.sure) b (is.sure o);
    })

pub move_table : (row : List ℕ) (place : Option (List ℕ)) → MoveKeepsRules row place
move_table row place t out is e =
    let loose = t.is_loose || follows_unsure row place t.rows in
    let p = then_ok (moved row_id row place t.rows) (λ rs. whole (table_of t.columns rs t.is_open loose)) out e in
    whole_table (table_of t.columns p.0 t.is_open loose) out (move_rules t row place p.0 loose is p.1) p.2

-- ---- erasure

pub move_erases : (row : List ℕ) (place : Option (List ℕ)) → MoveErases row place
move_erases row place t =
    rows_erased t.columns t.is_open (t.is_loose || follows_unsure row place t.rows) (moved row_id row place t.rows)
    ∙ ap (λ a. and_then a (λ rows. plain_whole (record { columns = t.columns; rows = rows }))) (moved_map row_id plain_id erased_row (λ r. refl) row place t.rows)

-- ---- what is shown

none_in : {X : Type 0} (p q : X → Bool) (xs : List X) → list_any p xs ≡ false → list_any p (filter q xs) ≡ false
none_in p q [] e = refl
none_in p q (x ∷ xs) e = on (q x) (p x) refl e (λ h. none_in p q xs h)
  where
    on : (b c : Bool) → p x ≡ c → (c || list_any p xs) ≡ false → (list_any p xs ≡ false → list_any p (filter q xs) ≡ false) →
        list_any p (cond b (x ∷ filter q xs) (filter q xs)) ≡ false
    on true true is h rest = cc
    on true false is h rest = rw is (rest h)
    on false true is h rest = cc
    on false false is h rest = rest h

-- no row of a text is unsure among fewer rows
still_sure : (place : Option (List ℕ)) (q : Row → Bool) (rows : List Row) → is_unsure place rows ≡ false → is_unsure place (filter q rows) ≡ false
still_sure None q rows e = refl
still_sure (Some text) q rows e =
    ap (list_any (λ r. not r.sure)) (only_filter row_id q text rows) ∙ none_in (λ r. not r.sure) q (only row_id text rows) e

module _ (row : List ℕ) (place : Option (List ℕ)) (rows : List Row) where
  abbrev seen : List ShownRow
  seen = sure_rows rows

  taken_shown : sure_rows (only row_id row rows) ≡ only shown_id row seen
  taken_shown =
      ap (map shown_row) (sym (only_filter row_id (λ r. r.sure) row rows)) ∙ sym (only_map row_id shown_id shown_row (λ r. refl) row (filter (λ r. r.sure) rows))

  others_shown : sure_rows (without row_id row rows) ≡ without shown_id row seen
  others_shown =
      ap (map shown_row) (sym (without_filter row_id (λ r. r.sure) row rows)) ∙ sym (without_map row_id shown_id shown_row (λ r. refl) row (filter (λ r. r.sure) rows))

  -- by their ids alone the rows are the same
  at_id : (b : Bool) (i : RowId) → values_at (sure_rows (put_if row place rows b)) i ≡ values_at seen i
  at_id true i = refl
  at_id false i =
      by_id_put (place_of row_id place (without row_id row rows)) (only row_id row rows) (without row_id row rows) i
      (λ k c h. apart row_id (is_text row) rows k (shown_among (only row_id row rows) k c) (shown_among (without row_id row rows) k h))
      ∙ ((λ j. values_at (taken_shown j ++ others_shown j) i) ∙ by_halves (is_text row) seen i)

  -- where the row that is named is sure, or the row itself, the row stands after it in what is shown
  in_order : (b : Bool) → (not b && is_unsure place rows) ≡ false →
      sure_rows (put_if row place rows b) ≡ (if b then seen else after shown_id place (only shown_id row seen) (without shown_id row seen))
  in_order true e = refl
  in_order false e =
      after_shown place (only row_id row rows) (without row_id row rows) (still_sure place (λ r. not (is_text row r.id)) rows e)
      ∙ (λ j. after shown_id place (taken_shown j) (others_shown j))

module _ (row : List ℕ) (place : Option (List ℕ)) (t : TableData) (there : is_place row_id place t.rows ≡ true) where
  abbrev all_seen : List ShownRow
  all_seen = sure_rows t.rows

  lost : (u : Bool) → follows_unsure row place t.rows ≡ u → is_lost row place (InOrder all_seen) ≡ u
  lost u e = ap (λ h. not (is_itself row place) && h) (hidden_is place t.rows there) ∙ e

  by_id : ById (values_at (sure_rows (put row_id row place t.rows))) ≡ ById (values_at all_seen)
  by_id = by_each_id (sure_rows (put row_id row place t.rows)) all_seen (at_id row place t.rows (is_itself row place))

  in_place : (l u : Bool) → follows_unsure row place t.rows ≡ u →
      placed (l || u) (sure_rows (put row_id row place t.rows)) ≡ move_shown (is_lost row place (placed l all_seen)) row place (placed l all_seen)
  in_place true u e = by_id
  in_place false true e = by_id ∙ ap (λ h. move_shown h row place (InOrder all_seen)) (sym (lost true e))
  in_place false false e =
      ap InOrder (in_order row place t.rows (is_itself row place) e) ∙ ap (λ h. move_shown h row place (InOrder all_seen)) (sym (lost false e))

  shows : shown (table_of t.columns (put row_id row place t.rows) t.is_open (t.is_loose || follows_unsure row place t.rows)) ≡ shown_row_moved (shown t) row place
  shows = λ i. record {
    columns = t.columns;
    rows = in_place t.is_loose (follows_unsure row place t.rows) refl i;
    is_open = t.is_open;
    is_loose = loose_is t.is_loose (follows_unsure row place t.rows) (λ l. is_lost row place (placed l all_seen)) (lost (follows_unsure row place t.rows) refl) i;
  }

pub move_shows : (row : List ℕ) (place : Option (List ℕ)) → MoveShows row place
move_shows row place t out is e =
    let loose = t.is_loose || follows_unsure row place t.rows in
    let p = then_ok (moved row_id row place t.rows) (λ rs. whole (table_of t.columns rs t.is_open loose)) out e in
    let ok = moved_ok row place t.rows p.0 p.1 in
    subst (λ x. shown x ≡ shown_row_moved (shown t) row place)
    (ap (λ rs. table_of t.columns rs t.is_open loose) ok.1 ∙ whole_is (table_of t.columns p.0 t.is_open loose) out p.2)
    (shows row place t ok.0)

-- ---- other picks

pub move_keeps : (row : List ℕ) (place : Option (List ℕ)) → MoveKeepsShown row place
move_keeps row place = keeps_shown (λ t. row_moved t row place) (λ t. shown_row_moved t row place) (move_shows row place)
