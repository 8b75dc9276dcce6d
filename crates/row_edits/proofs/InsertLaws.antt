-- The laws of `insert_row`, and the rules of its result.
use Rattle.std.proofs.Common.{◌≡◌, ℕ, zero, Bool, true, false, not, ◌&&◌, ◌||◌, Ok, Err, List, [], ◌∷◌, ◌++◌, length, map, filter, take, refl, subst, ap, ◌∙◌, sym}
use Rattle.std.specs.Prelude.{IsTrue, if◌then◌else◌, ◌==◌, Option, Some, None}
use Rattle.std.specs.List.{Contains}
use Rattle.std.proofs.lemmas.List.{length-map}
use Rattle.std.specs.Cmp.{unsigned_Decides}
use Rattle.value_types.specs.declared.row_id.RowId.{RowId, Named}
use Rattle.value_types.specs.declared.value.Value.TheVariants.{Null}
use Rattle.cell_errors.specs.Answers.{and_then}
use Rattle.cell_errors.specs.declared.fault.CellError.TheVariants as error
use Rattle.dataset_types.specs.declared.column.Column.{Column}
use Rattle.dataset_types.specs.declared.row.Marked.{Marked}
use Rattle.dataset_types.specs.declared.row.Row.{Row}
use Rattle.dataset_types.specs.Tables.{TableData, IsTable, table_of, row_ids, row_fits, values_fit}
use Rattle.dataset_types.specs.Plain.{erased_row}
use Rattle.caveat_marks.specs.Shown.{ShownRow, InOrder, ById, shown, shown_row, shown_value, values_at, placed}
use Rattle.relations.specs.Shown.{sure_rows}
use Rattle.relations.proofs.Gathered.{then_ok}
use Rattle.relations.proofs.Sames.{by_each_id}
use Rattle.edit_results.specs.Results.{KeepsRules, whole, plain_whole}
use Rattle.edit_results.proofs.Whole.{whole_is, whole_table}
use Rattle.row_edits.specs.ByText.{put_in, only, is_there, is_place, is_taken, place_of, after}
use Rattle.row_edits.specs.Rows.{inserted}
use Rattle.row_edits.specs.Ids.{row_id, plain_id, shown_id}
use Rattle.row_edits.specs.Insert.{nulls, null_row, any_unsure, is_unsure, row_inserted, shown_null_row, is_hidden, with_row, insert_shown, shown_row_inserted}
use Rattle.row_edits.specs.Laws.{InsertErases, InsertShows, InsertKeepsShown, InsertKeepsRules}
use Rattle.row_edits.proofs.PutIn.{map_put, put_all, filter_put}
use Rattle.row_edits.proofs.Mapped.{is_place_map, after_map, inserted_map}
use Rattle.row_edits.proofs.Sures.{after_filter, there_filter, gone_filter, put_at_id}
use Rattle.row_edits.proofs.Ids.{not_taken, only_one, with_one, shown_among}
use Rattle.row_edits.proofs.Results.{rows_erased, keeps_shown}

-- what stands where a row was inserted
pub inserted_ok : (new : Row) (place : Option (List ℕ)) (rows out : List Row) → inserted row_id new place rows ≡ Ok out →
    (is_place row_id place rows ≡ true) × (is_taken row_id new.id rows ≡ false) × (after row_id place (new ∷ []) rows ≡ out)
inserted_ok new place rows out e = at (is_place row_id place rows) (is_taken row_id new.id rows) e
  where
    at : (b c : Bool) → (if not b then Err error.NoRow else (if c then Err error.RowTaken else Ok (after row_id place (new ∷ []) rows))) ≡ Ok out →
        (b ≡ true) × (c ≡ false) × (after row_id place (new ∷ []) rows ≡ out)
    at true false e = (refl, refl, cc)
    at true true e = cc
    at false c e = cc

-- ---- the rules

-- NULLs fit every column
null_fits : (columns : List Column) → IsTrue (values_fit columns (nulls columns))
null_fits [] = refl
null_fits (c ∷ cs) = null_fits cs

same_number : (n m : ℕ) → n ≡ m → n == m ≡ true
same_number n m e = (unsigned_Decides n m).1 e

null_row_fits : (name : List ℕ) (columns : List Column) → IsTrue (row_fits columns (null_row name columns))
null_row_fits name columns =
    rw (same_number (length (nulls columns)) (length columns) (length-map columns (λ _. record { value = Null; marked = false })))
    (null_fits columns)

pub insert_rules : (t : TableData) (name : List ℕ) (place : Option (List ℕ)) (rows : List Row) (is_loose : Bool) → IsTable t →
    inserted row_id (null_row name t.columns) place t.rows ≡ Ok rows → KeepsRules (table_of t.columns rows t.is_open is_loose)
insert_rules t name place rows is_loose is e =
    let new = null_row name t.columns in
    let ok = inserted_ok new place t.rows rows e in
    let n = place_of row_id place t.rows in
    subst (λ rs. KeepsRules (table_of t.columns rs t.is_open is_loose)) ok.2 (record {
      names = is.names;
      ids = with_one new n t.rows ok.1 is.ids;
      fitting = put_all (row_fits t.columns) n (new ∷ []) t.rows (one (row_fits t.columns new) (null_row_fits name t.columns)) is.fitting;
      sure = λ o. put_all (λ r. r.sure) n (new ∷ []) t.rows refl (is.sure o);
    })
  where
    one : (b : Bool) → IsTrue b → IsTrue (b && true)
    one true e = refl
    one false e = e

pub insert_table : (name : List ℕ) (place : Option (List ℕ)) → InsertKeepsRules name place
insert_table name place t out is e =
    let loose = t.is_loose || is_unsure place t.rows in
    let p = then_ok (inserted row_id (null_row name t.columns) place t.rows) (λ rs. whole (table_of t.columns rs t.is_open loose)) out e in
    whole_table (table_of t.columns p.0 t.is_open loose) out (insert_rules t name place p.0 loose is p.1) p.2

-- ---- erasure

null_erased : (columns : List Column) → map (λ (m : Marked). m.value) (nulls columns) ≡ map (λ _. Null) columns
null_erased [] = refl
null_erased (c ∷ cs) = ap (λ z. Null ∷ z) (null_erased cs)

pub insert_erases : (name : List ℕ) (place : Option (List ℕ)) → InsertErases name place
insert_erases name place t =
    rows_erased t.columns t.is_open (t.is_loose || is_unsure place t.rows) (inserted row_id (null_row name t.columns) place t.rows)
    ∙ ap (λ a. and_then a (λ rows. plain_whole (record { columns = t.columns; rows = rows })))
    (inserted_map row_id plain_id erased_row (λ r. refl) (null_row name t.columns) place t.rows
    ∙ ap (λ vs. inserted plain_id (record { id = Named name; values = vs }) place (map erased_row t.rows)) (null_erased t.columns))

-- ---- what is shown

null_shown : (columns : List Column) → map shown_value (nulls columns) ≡ map (λ _. Some Null) columns
null_shown [] = refl
null_shown (c ∷ cs) = ap (λ z. Some Null ∷ z) (null_shown cs)

null_row_shown : (name : List ℕ) (columns : List Column) → shown_row (null_row name columns) ≡ shown_null_row name columns
null_row_shown name columns = λ i. record { id = Named name; values = null_shown columns i }

-- where the row that is named is sure, more rows stand after it in what is shown
pub after_shown : (place : Option (List ℕ)) (more rows : List Row) → is_unsure place rows ≡ false →
    sure_rows (after row_id place more rows) ≡ after shown_id place (sure_rows more) (sure_rows rows)
after_shown place more rows e = ap (map shown_row) (sures place e) ∙ sym (after_map row_id shown_id shown_row (λ r. refl) place (filter (λ r. r.sure) more) (filter (λ r. r.sure) rows))
  where
    sures : (q : Option (List ℕ)) → is_unsure q rows ≡ false → filter (λ r. r.sure) (after row_id q more rows) ≡ after row_id q (filter (λ r. r.sure) more) (filter (λ r. r.sure) rows)
    sures None k = filter_put (λ r. r.sure) zero more rows
    sures (Some text) k = after_filter row_id (λ r. r.sure) text more rows k

-- a row that is there isn't shown where it is unsure
pub hidden_is : (place : Option (List ℕ)) (rows : List Row) → is_place row_id place rows ≡ true → is_hidden place (InOrder (sure_rows rows)) ≡ is_unsure place rows
hidden_is None rows e = refl
hidden_is (Some text) rows e = ap not (is_place_map row_id shown_id shown_row (λ r. refl) (Some text) (filter (λ r. r.sure) rows)) ∙ on (any_unsure (only row_id text rows)) refl
  where
    on : (b : Bool) → any_unsure (only row_id text rows) ≡ b → not (is_there row_id text (filter (λ r. r.sure) rows)) ≡ b
    on true k = ap not (gone_filter row_id (λ r. r.sure) text rows e k)
    on false k = ap not (there_filter row_id (λ r. r.sure) text rows k ∙ e)

-- rows put in at any place have the same values by their ids
pub by_id_put : (n : ℕ) (more rows : List Row) (i : RowId) → ((k : RowId) → Contains (map shown_id (sure_rows more)) k → Contains (map shown_id (sure_rows rows)) k → ⊥) →
    values_at (sure_rows (put_in n more rows)) i ≡ values_at (sure_rows more ++ sure_rows rows) i
by_id_put n more rows i apart =
    let m = length (filter (λ r. r.sure) (take n rows)) in
    ap (λ z. values_at (map shown_row z) i) (filter_put (λ r. r.sure) n more rows)
    ∙ (ap (λ z. values_at z i) (map_put shown_row m (filter (λ r. r.sure) more) (filter (λ r. r.sure) rows)) ∙ put_at_id m (sure_rows more) (sure_rows rows) i apart)

-- the flag, from what is shown
pub loose_is : (l u : Bool) (h : Bool → Bool) → h false ≡ u → (l || u) ≡ (l || h l)
loose_is true u h e = refl
loose_is false u h e = sym e

module _ (name : List ℕ) (place : Option (List ℕ)) (t : TableData) (there : is_place row_id place t.rows ≡ true) (free : is_taken row_id (Named name) t.rows ≡ false) where
  abbrev new : Row
  new = null_row name t.columns

  abbrev rows : List Row
  rows = after row_id place (new ∷ []) t.rows

  abbrev shown_new : ShownRow
  shown_new = shown_null_row name t.columns

  hidden : (u : Bool) → is_unsure place t.rows ≡ u → is_hidden place (InOrder (sure_rows t.rows)) ≡ u
  hidden u e = hidden_is place t.rows there ∙ e

  by_id : ById (values_at (sure_rows rows)) ≡ ById (with_row shown_new (values_at (sure_rows t.rows)))
  by_id =
      by_each_id (sure_rows rows) (shown_new ∷ sure_rows t.rows)
      (λ i. by_id_put (place_of row_id place t.rows) (new ∷ []) t.rows i
      (λ k c h. not_taken t.rows (Named name) free (subst (Contains (row_ids t.rows)) (sym (only_one (Named name) k c)) (shown_among t.rows k h)))
      ∙ ap (λ r. values_at (r ∷ sure_rows t.rows) i) (null_row_shown name t.columns))

  in_order : is_unsure place t.rows ≡ false → InOrder (sure_rows rows) ≡ InOrder (after shown_id place (shown_new ∷ []) (sure_rows t.rows))
  in_order e =
      ap InOrder (after_shown place (new ∷ []) t.rows e ∙ ap (λ r. after shown_id place (r ∷ []) (sure_rows t.rows)) (null_row_shown name t.columns))

  in_place : (l u : Bool) → is_unsure place t.rows ≡ u →
      placed (l || u) (sure_rows rows) ≡ insert_shown (is_hidden place (placed l (sure_rows t.rows))) shown_new place (placed l (sure_rows t.rows))
  in_place true u e = by_id
  in_place false true e = by_id ∙ ap (λ h. insert_shown h shown_new place (InOrder (sure_rows t.rows))) (sym (hidden true e))
  in_place false false e = in_order e ∙ ap (λ h. insert_shown h shown_new place (InOrder (sure_rows t.rows))) (sym (hidden false e))

  shows : shown (table_of t.columns rows t.is_open (t.is_loose || is_unsure place t.rows)) ≡ shown_row_inserted (shown t) name place
  shows = λ i. record {
    columns = t.columns;
    rows = in_place t.is_loose (is_unsure place t.rows) refl i;
    is_open = t.is_open;
    is_loose = loose_is t.is_loose (is_unsure place t.rows) (λ l. is_hidden place (placed l (sure_rows t.rows))) (hidden (is_unsure place t.rows) refl) i;
  }

pub insert_shows : (name : List ℕ) (place : Option (List ℕ)) → InsertShows name place
insert_shows name place t out is e =
    let loose = t.is_loose || is_unsure place t.rows in
    let p = then_ok (inserted row_id (null_row name t.columns) place t.rows) (λ rs. whole (table_of t.columns rs t.is_open loose)) out e in
    let ok = inserted_ok (null_row name t.columns) place t.rows p.0 p.1 in
    subst (λ x. shown x ≡ shown_row_inserted (shown t) name place)
    (ap (λ rs. table_of t.columns rs t.is_open loose) ok.2 ∙ whole_is (table_of t.columns p.0 t.is_open loose) out p.2)
    (shows name place t ok.0 ok.1)

-- ---- other picks

pub insert_keeps : (name : List ℕ) (place : Option (List ℕ)) → InsertKeepsShown name place
insert_keeps name place = keeps_shown (λ t. row_inserted t name place) (λ t. shown_row_inserted t name place) (insert_shows name place)
