-- Commands that leave the rows and the flags as they are.
use Rattle.std.proofs.Common.{◌≡◌, ℕ, suc, Bool, true, false, not, ◌&&◌, ◌||◌, Ok, Err, List, [], ◌∷◌, ◌++◌, length, cond, get_or, refl, ap, ◌∙◌, sym, arith}
use Rattle.std.specs.Prelude.{if◌then◌else◌, ◌==◌, Option, Some, None, slice_set}
use Rattle.std.specs.List.{list_all}
use Rattle.std.proofs.lemmas.Bool.{and_parts}
use Rattle.std.proofs.lemmas.Bool.Decides.{Decides-eqb}
use Rattle.std.proofs.lemmas.List.{nil_from_length, set-get_or}
use Rattle.value_types.specs.declared.row_id.RowId.{RowId}
use Rattle.value_types.specs.declared.value.Value.{Value}
use Rattle.cell_errors.specs.Answers.{and_then}
use Rattle.cell_errors.specs.declared.fault.CellError.TheVariants as error
use Rattle.dataset_types.specs.declared.row.Marked.{Marked}
use Rattle.dataset_types.specs.declared.row.Row.{Row}
use Rattle.dataset_types.specs.Same.{marked_decides}
use Rattle.dataset_types.specs.Tables.{TableData, IsTable, table_of}
use Rattle.edit_results.proofs.Whole.{whole_of}
use Rattle.edit_results.specs.Results.{whole}
use Rattle.row_edits.specs.ByText.{is_text, put_in, only, without, is_there, up_to, place_of, after, changed_at}
use Rattle.row_edits.specs.Rows.{is_itself, put, are_there, moved}
use Rattle.row_edits.specs.Move.{follows_unsure, row_moved}
use Rattle.row_edits.specs.Staying.{is_in_place, stays, has_value, stands}
use Rattle.row_edits.specs.Insert.{is_unsure}
use Rattle.row_edits.specs.Ids.{row_id}
use Rattle.row_edits.specs.Set.{with_value, value_set}
use Rattle.row_edits.specs.Columns.{find_column, value_for}
use Rattle.row_edits.specs.declared.columns.Found.{Found}

-- ---- a row put where it is

module _ {R : Type 0} (id_of : R → RowId) where
  -- where no row has a text, all are without it
  none_out : (text : List ℕ) (rows : List R) → length (only id_of text rows) ≡ 0 → without id_of text rows ≡ rows
  none_out text [] e = refl
  none_out text (r ∷ rs) e = on (is_text text (id_of r)) e (λ h. none_out text rs h)
    where
      on : (b : Bool) → length (cond b (r ∷ only id_of text rs) (only id_of text rs)) ≡ 0 → (length (only id_of text rs) ≡ 0 → without id_of text rs ≡ rs) →
          cond (not b) (r ∷ without id_of text rs) (without id_of text rs) ≡ r ∷ rs
      on true h rest = absurd (omega (arith, h))
      on false h rest = ap (λ z. r ∷ z) (rest h)

  none_up_to : (text : List ℕ) (rows : List R) → up_to id_of text rows ≡ 0 → length (only id_of text rows) ≡ 0
  none_up_to text [] e = refl
  none_up_to text (r ∷ rs) e = on (is_text text (id_of r)) e
    where
      on : (b : Bool) → (if b then 1 else suc (up_to id_of text rs)) ≡ 0 → length (cond b (r ∷ only id_of text rs) (only id_of text rs)) ≡ 0
      on true h = absurd (omega (arith, h))
      on false h = absurd (omega (arith, h))

  -- the first row, put first
  first_stays : (row : List ℕ) (rows : List R) → up_to id_of row rows ≡ 1 → length (only id_of row rows) ≡ 1 → only id_of row rows ++ without id_of row rows ≡ rows
  first_stays row [] e n = refl
  first_stays row (r ∷ rs) e n = on (is_text row (id_of r)) e n
    where
      on : (b : Bool) → (if b then 1 else suc (up_to id_of row rs)) ≡ 1 → length (cond b (r ∷ only id_of row rs) (only id_of row rs)) ≡ 1 →
          cond b (r ∷ only id_of row rs) (only id_of row rs) ++ cond (not b) (r ∷ without id_of row rs) (without id_of row rs) ≡ r ∷ rs
      on true h k =
          let no : length (only id_of row rs) ≡ 0 = omega (arith, k) in
          let only_is = nil_from_length (only id_of row rs) no in
          let rest_is = none_out row rs no in
          λ i. r ∷ (only_is i ++ rest_is i)
      on false h k = absurd (omega (arith, k, none_up_to row rs (omega (arith, h))))

  -- the next row, put after the one before it
  next_stays : (row text : List ℕ) (rows : List R) → up_to id_of row rows ≡ suc (up_to id_of text rows) → length (only id_of row rows) ≡ 1 →
      put_in (up_to id_of text (without id_of row rows)) (only id_of row rows) (without id_of row rows) ≡ rows
  next_stays row text [] e n = absurd (omega (arith, e))
  next_stays row text (r ∷ rs) e n =
      on (is_text row (id_of r)) (is_text text (id_of r)) refl e n (λ h k. first_stays row rs h k) (λ h k. next_stays row text rs h k)
    where
      on : (b c : Bool) → is_text text (id_of r) ≡ c → (if b then 1 else suc (up_to id_of row rs)) ≡ suc (if c then 1 else suc (up_to id_of text rs)) →
          length (cond b (r ∷ only id_of row rs) (only id_of row rs)) ≡ 1 →
          (up_to id_of row rs ≡ 1 → length (only id_of row rs) ≡ 1 → only id_of row rs ++ without id_of row rs ≡ rs) →
          (up_to id_of row rs ≡ suc (up_to id_of text rs) → length (only id_of row rs) ≡ 1 →
          put_in (up_to id_of text (without id_of row rs)) (only id_of row rs) (without id_of row rs) ≡ rs) →
          put_in (up_to id_of text (cond (not b) (r ∷ without id_of row rs) (without id_of row rs)))
          (cond b (r ∷ only id_of row rs) (only id_of row rs)) (cond (not b) (r ∷ without id_of row rs) (without id_of row rs)) ≡ r ∷ rs
      on true true is h k first next = absurd (omega (arith, h))
      on true false is h k first next = absurd (omega (arith, h))
      on false true is h k first next = rw is (ap (λ z. r ∷ z) (first (omega (arith, h)) k))
      on false false is h k first next = rw is (ap (λ z. r ∷ z) (next (omega (arith, h)) k))

  put_stays : (row : List ℕ) (place : Option (List ℕ)) (rows : List R) → is_in_place id_of row place rows ≡ true → is_there id_of row rows ≡ true →
      put id_of row place rows ≡ rows
  put_stays row place rows e there = on (is_itself row place) e
    where
      one : length (only id_of row rows) ≡ 1
      one = (Decides-eqb (length (only id_of row rows)) 1).0 there

      at : (p : Option (List ℕ)) → up_to id_of row rows ≡ suc (place_of id_of p rows) → after id_of p (only id_of row rows) (without id_of row rows) ≡ rows
      at None h = first_stays row rows h one
      at (Some text) h = next_stays row text rows h one

      on : (b : Bool) → (b || (up_to id_of row rows == suc (place_of id_of place rows))) ≡ true →
          (if b then rows else after id_of place (only id_of row rows) (without id_of row rows)) ≡ rows
      on true h = refl
      on false h = at place ((Decides-eqb (up_to id_of row rows) (suc (place_of id_of place rows))).0 h)

-- ---- a dataset with a row that is put, and one that stays

pub loose_stays : (l m : Bool) → (l || not m) ≡ true → (l || m) ≡ l
loose_stays true m h = refl
loose_stays false true h = cc
loose_stays false false h = refl

-- where both rows are there, the row is put
pub goes : (row : List ℕ) (place : Option (List ℕ)) (rows : List Row) → are_there row_id row place rows ≡ true →
    moved row_id row place rows ≡ Ok (put row_id row place rows)
goes row place rows there = on (are_there row_id row place rows) there
  where
    on : (b : Bool) → b ≡ true → (if b then Ok (put row_id row place rows) else Err error.NoRow) ≡ Ok (put row_id row place rows)
    on true h = refl
    on false h = cc

-- where both rows are there, the dataset is that with the row put
pub row_goes : (t : TableData) (row : List ℕ) (place : Option (List ℕ)) → are_there row_id row place t.rows ≡ true →
    row_moved t row place ≡ whole (table_of t.columns (put row_id row place t.rows) t.is_open (t.is_loose || follows_unsure row place t.rows))
row_goes t row place there =
    ap (λ a. and_then a (λ rs. whole (table_of t.columns rs t.is_open (t.is_loose || follows_unsure row place t.rows)))) (goes row place t.rows there)

-- a row that is put after itself stays
pub apart : (t : TableData) (row : List ℕ) (place : Option (List ℕ)) → stays t row place ≡ false → is_itself row place ≡ false
apart t row place e = on (is_itself row place) e
  where
    loose : (l : Bool) → (l || true) ≡ false → true ≡ false
    loose true h = h
    loose false h = h

    on : (b : Bool) →
        ((b || (up_to row_id row t.rows == suc (place_of row_id place t.rows))) && (t.is_loose || not (not b && is_unsure place t.rows))) ≡ false → b ≡ false
    on true h = loose t.is_loose h
    on false h = refl

pub row_stays : (t : TableData) (row : List ℕ) (place : Option (List ℕ)) → IsTable t → are_there row_id row place t.rows ≡ true →
    stays t row place ≡ true → row_moved t row place ≡ Ok t
row_stays t row place is there e =
    let unsure = follows_unsure row place t.rows in
    let p = and_parts (is_in_place row_id row place t.rows) _ e in
    let q = and_parts (is_there row_id row t.rows) _ there in
    let rows = put_stays row_id row place t.rows p.0 q.0 in
    row_goes t row place there
    ∙ (ap whole (λ i. table_of t.columns (rows i) t.is_open (loose_stays t.is_loose unsure p.1 i)) ∙ whole_of t is)

-- ---- a value that is set where it stands

value_stays : (at : ℕ) (v : Value) (r : Row) → has_value at v r ≡ true → with_value at v r ≡ r
value_stays at v r e =
    let new : Marked = record { value = v; marked = false } in
    let own : get_or r.values at new ≡ new = (marked_decides (get_or r.values at new) new).0 e in
    let same : slice_set r.values at new ≡ r.values = ap (slice_set r.values at) (sym own) ∙ set-get_or r.values at new in
    λ i. record { id = r.id; sure = r.sure; values = same i }

values_stay : (text : List ℕ) (at : ℕ) (v : Value) (rows : List Row) → stands text at v rows ≡ true → changed_at row_id text (with_value at v) rows ≡ rows
values_stay text at v [] e = refl
values_stay text at v (r ∷ rs) e = on (is_text text r.id) e (λ h. values_stay text at v rs h)
  where
    on : (b : Bool) → list_all (has_value at v) (cond b (r ∷ only row_id text rs) (only row_id text rs)) ≡ true →
        (stands text at v rs ≡ true → changed_at row_id text (with_value at v) rs ≡ rs) →
        (if b then with_value at v r else r) ∷ changed_at row_id text (with_value at v) rs ≡ r ∷ rs
    on true h rest =
        let p = and_parts (has_value at v r) (stands text at v rs) h in
        let one = value_stays at v r p.0 in
        let more = rest p.1 in
        λ i. one i ∷ more i
    on false h rest = ap (λ z. r ∷ z) (rest h)

pub set_stays : (t : TableData) (row column : List ℕ) (v w : Value) (found : Found) → IsTable t → find_column t.columns column ≡ Ok found →
    is_there row_id row t.rows ≡ true → value_for found.kind v ≡ Ok w → stands row found.place w t.rows ≡ true → value_set t row column v ≡ Ok t
set_stays t row column v w found is at there fits e =
    rw (at, there, fits) (ap whole (λ i. table_of t.columns (values_stay row found.place w t.rows e i) t.is_open t.is_loose) ∙ whole_of t is)
