-- The laws of `set_value`, and the rules of its result.
use Rattle.std.proofs.Common.{◌≡◌, ◌+◌, ℕ, zero, suc, Bool, true, false, ◌&&◌, Ok, Err, List, [], ◌∷◌, length, map, filter, refl, subst, ap, ◌∙◌, sym, arith}
use Rattle.std.specs.Prelude.{IsTrue, if◌then◌else◌, ◌==◌, Option, Some, None, ℤ, slice_set}
use Rattle.std.specs.List.{list_all}
use Rattle.std.specs.Str.{bytes_eq}
use Rattle.std.specs.Result.{result_map_both}
use Rattle.std.proofs.lemmas.List.{length-set, map-set}
use Rattle.value_types.specs.Numbers.{widened}
use Rattle.value_types.specs.declared.value.ColumnType.{ColumnType}
use Rattle.value_types.specs.declared.value.ColumnType.TheVariants as kind
use Rattle.value_types.specs.declared.value.Value.{Value}
use Rattle.value_types.specs.declared.value.Value.TheVariants as value
use Rattle.cell_errors.specs.Answers.{Answer, and_then}
use Rattle.cell_errors.specs.declared.fault.CellError.TheVariants as error
use Rattle.dataset_types.specs.declared.column.Column.{Column}
use Rattle.dataset_types.specs.declared.row.Marked.{Marked}
use Rattle.dataset_types.specs.declared.row.Row.{Row}
use Rattle.dataset_types.specs.Tables.{TableData, IsTable, table_of, Distinct, row_ids, row_fits, values_fit, fits}
use Rattle.dataset_types.specs.Plain.{erased, erased_row}
use Rattle.caveat_marks.specs.Shown.{ShownTable, InOrder, ById, shown, shown_row, shown_value, values_at, placed}
use Rattle.relations.specs.Shown.{sure_rows}
use Rattle.relations.proofs.Gathered.{fine, then_ok, the_same}
use Rattle.edit_results.specs.Widening.{fixed_or}
use Rattle.edit_results.specs.Results.{KeepsRules, whole, plain_whole}
use Rattle.edit_results.proofs.Whole.{whole_is, whole_table, whole_erased}
use Rattle.row_edits.specs.declared.columns.Found.{Found}
use Rattle.row_edits.specs.ByText.{is_text, is_there, changed_at}
use Rattle.row_edits.specs.Columns.{find_from, find_column, value_for}
use Rattle.row_edits.specs.Ids.{row_id, plain_id, shown_id}
use Rattle.row_edits.specs.Set.{with_value, value_set, with_plain, set_known, with_known, set_shown, given_or, shown_value_set}
use Rattle.row_edits.specs.Laws.{SetErases, SetShows, SetKeepsShown, SetKeepsRules}
use Rattle.row_edits.proofs.PutIn.{filter_map}
use Rattle.row_edits.proofs.Mapped.{there_map, changed_map}
use Rattle.row_edits.proofs.Sures.{values_changed}
use Rattle.row_edits.proofs.Results.{if_ok, keeps_shown}

-- ---- values that fit

-- the column at a place has this type
abbrev HasType : List Column → ℕ → ColumnType → Type 0
HasType [] n k = ⊥
HasType (c ∷ cs) zero k = c.kind ≡ k
HasType (c ∷ cs) (suc n) k = HasType cs n k

-- a column that is found, so many places on
record IsAt (columns : List Column) (m : ℕ) (f : Found) : Type 0 where
  place : ℕ
  at : f.place ≡ m + place
  type : HasType columns place f.kind

found_from : (m : ℕ) (name : List ℕ) (columns : List Column) (f : Found) → find_from m name columns ≡ Ok f → IsAt columns m f
found_from m name [] f e = cc
found_from m name (c ∷ cs) f e = on (bytes_eq c.name name) e (λ h. found_from (suc m) name cs f h)
  where
    first : fine (record { place = m; kind = c.kind }) ≡ fine f → IsAt (c ∷ cs) m f
    first h = subst (IsAt (c ∷ cs) m) (the_same (record { place = m; kind = c.kind }) f h) (record { place = 0; at = omega arith; type = refl })

    one_on : IsAt cs (suc m) f → IsAt (c ∷ cs) m f
    one_on is = let at = is.at in record { place = suc is.place; at = omega (arith, at); type = is.type }

    on : (b : Bool) → (if b then Ok (record { place = m; kind = c.kind }) else find_from (suc m) name cs) ≡ Ok f → (find_from (suc m) name cs ≡ Ok f → IsAt cs (suc m) f) → IsAt (c ∷ cs) m f
    on true h rest = first h
    on false h rest = one_on (rest h)

-- a column that is found has its type at its place
found_type : (columns : List Column) (name : List ℕ) (f : Found) → find_column columns name ≡ Ok f → HasType columns f.place f.kind
found_type columns name f e =
    let is = found_from 0 name columns f e in let at = is.at in
    subst (λ n. HasType columns n f.kind) (sym (omega (arith, at))) is.type

fits_if : (k : ColumnType) (v w : Value) → (if fits v k then Ok v else Err error.TypeFault) ≡ Ok w → IsTrue (fits w k)
fits_if k v w e = let p = if_ok (fits v k) (Ok v) error.TypeFault w e in subst (λ z. IsTrue (fits z k)) (the_same v w p.1) p.0

-- a value of a column fits it
value_fits : (k : ColumnType) (v w : Value) → value_for k v ≡ Ok w → IsTrue (fits w k)
value_fits kind.Bool v w e = fits_if kind.Bool v w e
value_fits kind.Int v w e = fits_if kind.Int v w e
value_fits kind.Text v w e = fits_if kind.Text v w e
value_fits kind.Fixed value.Null w e = fits_if kind.Fixed value.Null w e
value_fits kind.Fixed (value.Bool b) w e = fits_if kind.Fixed (value.Bool b) w e
value_fits kind.Fixed (value.Fixed n) w e = fits_if kind.Fixed (value.Fixed n) w e
value_fits kind.Fixed (value.Text t) w e = fits_if kind.Fixed (value.Text t) w e
value_fits kind.Fixed (value.Int n) w e = on (widened n) e
  where
    on : (o : Option ℤ) → fixed_or o ≡ Ok w → IsTrue (fits w kind.Fixed)
    on None h = cc
    on (Some count) h = subst (λ z. IsTrue (fits z kind.Fixed)) (the_same (value.Fixed count) w h) refl

-- ---- the rules

both : (a b c : Bool) → (IsTrue a → IsTrue c) → IsTrue (a && b) → IsTrue (c && b)
both true b c h e = rw (h refl) e
both false b c h e = cc

second : (a b c : Bool) → (IsTrue b → IsTrue c) → IsTrue (a && b) → IsTrue (a && c)
second true b c h e = h e
second false b c h e = e

abbrev unmarked : Value → Marked
unmarked w = record { value = w; marked = false }

-- values of which one is another that fits
fits_set : (columns : List Column) (n : ℕ) (k : ColumnType) (w : Value) → HasType columns n k → IsTrue (fits w k) → (vs : List Marked) →
    IsTrue (values_fit columns vs) → IsTrue (values_fit columns (slice_set vs n (unmarked w)))
fits_set [] n k w is h vs e = absurd is
fits_set (c ∷ cs) n k w is h [] e = e
fits_set (c ∷ cs) zero k w is h (v ∷ vs) e = both (fits v.value c.kind) (values_fit cs vs) (fits w c.kind) (λ _. subst (λ z. IsTrue (fits w z)) (sym is) h) e
fits_set (c ∷ cs) (suc n) k w is h (v ∷ vs) e =
    second (fits v.value c.kind) (values_fit cs vs) (values_fit cs (slice_set vs n (unmarked w))) (fits_set cs n k w is h vs) e

module _ (columns : List Column) (row : List ℕ) (n : ℕ) (k : ColumnType) (w : Value) (is : HasType columns n k) (h : IsTrue (fits w k)) where
  row_fits_set : (r : Row) → IsTrue (row_fits columns r) → IsTrue (row_fits columns (with_value n w r))
  row_fits_set r e =
      rw (length-set r.values n (unmarked w))
      (second (length r.values == length columns) (values_fit columns r.values) (values_fit columns (slice_set r.values n (unmarked w))) (fits_set columns n k w is h r.values) e)

  abbrev changed_if : Bool → Row → Row
  changed_if b r = if b then with_value n w r else r

  fits_changed : (b : Bool) (r : Row) → IsTrue (row_fits columns r) → IsTrue (row_fits columns (changed_if b r))
  fits_changed true r e = row_fits_set r e
  fits_changed false r e = e

  all_fit : (rows : List Row) → IsTrue (list_all (row_fits columns) rows) → IsTrue (list_all (row_fits columns) (changed_at row_id row (with_value n w) rows))
  all_fit [] e = e
  all_fit (r ∷ rs) e =
      let rest = second (row_fits columns r) (list_all (row_fits columns) rs) (list_all (row_fits columns) (changed_at row_id row (with_value n w) rs)) (all_fit rs) e in
      both (row_fits columns r) (list_all (row_fits columns) (changed_at row_id row (with_value n w) rs)) (row_fits columns (changed_if (is_text row r.id) r)) (fits_changed (is_text row r.id) r) rest

-- a change of values keeps ids, and whether rows are sure
module _ (row : List ℕ) (n : ℕ) (w : Value) where
  abbrev change : Row → Row
  change r = if is_text row r.id then with_value n w r else r

  same_id_if : (b : Bool) (r : Row) → (if b then with_value n w r else r).id ≡ r.id
  same_id_if true r = refl
  same_id_if false r = refl

  same_sure_if : (b : Bool) (r : Row) → (if b then with_value n w r else r).sure ≡ r.sure
  same_sure_if true r = refl
  same_sure_if false r = refl

  same_ids : (rows : List Row) → row_ids (changed_at row_id row (with_value n w) rows) ≡ row_ids rows
  same_ids [] = refl
  same_ids (r ∷ rs) = λ i. same_id_if (is_text row r.id) r i ∷ same_ids rs i

  same_sures : (rows : List Row) → list_all (λ r. r.sure) (changed_at row_id row (with_value n w) rows) ≡ list_all (λ r. r.sure) rows
  same_sures [] = refl
  same_sures (r ∷ rs) = λ i. same_sure_if (is_text row r.id) r i && same_sures rs i

pub set_rules : (t : TableData) (row column : List ℕ) (v : Value) (f : Found) (w : Value) → IsTable t → find_column t.columns column ≡ Ok f → value_for f.kind v ≡ Ok w →
    KeepsRules (table_of t.columns (changed_at row_id row (with_value f.place w) t.rows) t.is_open t.is_loose)
set_rules t row column v f w is e k = record {
  names = is.names;
  ids = subst Distinct (sym (same_ids row f.place w t.rows)) is.ids;
  fitting = all_fit t.columns row f.place f.kind w (found_type t.columns column f e) (value_fits f.kind v w k) t.rows is.fitting;
  sure = λ o. rw (same_sures row f.place w t.rows) (is.sure o);
}

-- ---- what is answered

-- the dataset with the value in the row
abbrev set_in : List ℕ → TableData → Found → Value → TableData
set_in row t f w = table_of t.columns (changed_at row_id row (with_value f.place w) t.rows) t.is_open t.is_loose

-- a command without an error, taken apart
record IsSet (row column : List ℕ) (v : Value) (t out : TableData) : Type 0 where
  found : Found
  value : Value
  finds : find_column t.columns column ≡ Ok found
  fits : value_for found.kind v ≡ Ok value
  whole : whole (set_in row t found value) ≡ Ok out

set_ok : (row column : List ℕ) (v : Value) (t out : TableData) → value_set t row column v ≡ Ok out → IsSet row column v t out
set_ok row column v t out e =
    let first = then_ok (find_column t.columns column) (λ f. if is_there row_id row t.rows then and_then (value_for f.kind v) (λ w. whole (set_in row t f w)) else Err error.NoRow) out e in
    let under = if_ok (is_there row_id row t.rows) (and_then (value_for first.0.kind v) (λ w. whole (set_in row t first.0 w))) error.NoRow out first.2 in
    let next = then_ok (value_for first.0.kind v) (λ w. whole (set_in row t first.0 w)) out under.1 in
    record { found = first.0; value = next.0; finds = first.1; fits = next.1; whole = next.2 }

pub set_table : (row column : List ℕ) (v : Value) → SetKeepsRules row column v
set_table row column v t out is e =
    let p = set_ok row column v t out e in
    whole_table (set_in row t p.found p.value) out (set_rules t row column v p.found p.value is p.finds p.fits) p.whole

-- ---- erasure

rows_plain : (row : List ℕ) (n : ℕ) (w : Value) (rows : List Row) →
    changed_at plain_id row (with_plain n w) (map erased_row rows) ≡ map erased_row (changed_at row_id row (with_value n w) rows)
rows_plain row n w rows =
    changed_map row_id plain_id erased_row (λ r. refl) (with_value n w) (with_plain n w)
    (λ r. λ i. record { id = r.id; values = sym (map-set (λ (m : Marked). m.value) r.values n (unmarked w)) i }) row rows

pub set_erases : (row column : List ℕ) (v : Value) → SetErases row column v
set_erases row column v t = on (find_column t.columns column)
  where
    at_value : (f : Found) (a : Answer Value) →
        result_map_both erased (λ e. e) (and_then a (λ w. whole (table_of t.columns (changed_at row_id row (with_value f.place w) t.rows) t.is_open t.is_loose)))
        ≡ and_then a (λ w. plain_whole (record { columns = t.columns; rows = changed_at plain_id row (with_plain f.place w) (map erased_row t.rows) }))
    at_value f (Err e) = refl
    at_value f (Ok w) =
        whole_erased (table_of t.columns (changed_at row_id row (with_value f.place w) t.rows) t.is_open t.is_loose)
        ∙ ap (λ rs. plain_whole (record { columns = t.columns; rows = rs })) (sym (rows_plain row f.place w t.rows))

    under : (f : Found) (b : Bool) →
        result_map_both erased (λ e. e)
        (if b then and_then (value_for f.kind v) (λ w. whole (table_of t.columns (changed_at row_id row (with_value f.place w) t.rows) t.is_open t.is_loose)) else Err error.NoRow)
        ≡ (if b then and_then (value_for f.kind v) (λ w. plain_whole (record { columns = t.columns; rows = changed_at plain_id row (with_plain f.place w) (map erased_row t.rows) })) else Err error.NoRow)
    under f true = at_value f (value_for f.kind v)
    under f false = refl

    on : (a : Answer Found) →
        result_map_both erased (λ e. e) (and_then a (λ f. if is_there row_id row t.rows then
        and_then (value_for f.kind v) (λ w. whole (table_of t.columns (changed_at row_id row (with_value f.place w) t.rows) t.is_open t.is_loose))
        else Err error.NoRow))
        ≡ and_then a (λ f. if is_there plain_id row (map erased_row t.rows) then
        and_then (value_for f.kind v) (λ w. plain_whole (record { columns = t.columns; rows = changed_at plain_id row (with_plain f.place w) (map erased_row t.rows) }))
        else Err error.NoRow)
    on (Err e) = refl
    on (Ok f) = rw (there_map row_id plain_id erased_row (λ r. refl) row t.rows) (under f (is_there row_id row t.rows))

-- ---- what is shown

module _ (row : List ℕ) (n : ℕ) (w : Value) (rows : List Row) where
  -- of the changed rows
  sures : sure_rows (changed_at row_id row (with_value n w) rows) ≡ changed_at shown_id row (with_known n w) (sure_rows rows)
  sures =
      ap (map shown_row) (filter_map (λ r. r.sure) (λ r. r.sure) (change row n w) (λ r. same_sure_if row n w (is_text row r.id) r) rows)
      ∙ sym (changed_map row_id shown_id shown_row (λ r. refl) (with_value n w) (with_known n w)
      (λ r. λ i. record { id = r.id; values = sym (map-set shown_value r.values n (unmarked w)) i }) row (filter (λ r. r.sure) rows))

  in_place : (l : Bool) → placed l (sure_rows (changed_at row_id row (with_value n w) rows)) ≡ set_shown row n w (placed l (sure_rows rows))
  in_place true = ap (λ z. ById (values_at z)) sures ∙ (λ k. ById (λ i. values_changed row (set_known n w) (sure_rows rows) i k))
  in_place false = ap InOrder sures

pub set_shows : (row column : List ℕ) (v : Value) → SetShows row column v
set_shows row column v t out is e =
    let p = set_ok row column v t out e in
    subst (λ x. shown x ≡ shown_value_set (shown t) row column v) (whole_is (set_in row t p.found p.value) out p.whole)
    ((λ i. record { columns = t.columns; rows = in_place row p.found.place p.value t.rows t.is_loose i; is_open = t.is_open; is_loose = t.is_loose })
    ∙ sym (given (find_column t.columns column) p.found p.value p.finds p.fits))
  where
    shown_with : Found → Value → ShownTable
    shown_with f w = record { columns = t.columns; rows = set_shown row f.place w (placed t.is_loose (sure_rows t.rows)); is_open = t.is_open; is_loose = t.is_loose }

    given : (a : Answer Found) (f : Found) (w : Value) → a ≡ Ok f → value_for f.kind v ≡ Ok w →
        given_or (shown t) (and_then a (λ g. and_then (value_for g.kind v) (λ x. Ok (shown_with g x)))) ≡ shown_with f w
    given a f w e k = rw (e, k) refl

-- ---- other picks

pub set_keeps : (row column : List ℕ) (v : Value) → SetKeepsShown row column v
set_keeps row column v = keeps_shown (λ t. value_set t row column v) (λ t. shown_value_set t row column v) (set_shows row column v)
