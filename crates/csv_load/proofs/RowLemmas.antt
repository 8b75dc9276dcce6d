-- Rows that are made one after another, and the limits that they may pass.
use Rattle.std.proofs.Common.{◌≡◌, ◌≤◌, ◌<◌, ◌+◌, ℕ, List, [], ◌∷◌, ◌++◌, length, drop, map, get_or, Bool, true, false, refl, sym, ◌∙◌, ap, arith, add-one, drop-cons, append_assoc, length-append}
use Rattle.std.specs.Prelude.{◌&&◌, ◌||◌, nat_le, filter, Err}
use Rattle.std.specs.List.{enumerate_from}
use Rattle.std.proofs.lemmas.List.{append-nil}
use Rattle.std.proofs.lemmas.Bool.Decides.{nat_tests}
use Rattle.std.proofs.Math.Nat.{mul-le-mul_right}
use Rattle.dataset_types.specs.declared.column.Column.{Column}
use Rattle.dataset_types.specs.declared.row.Row.{Row}
use Rattle.dataset_types.specs.Tables.{TableData, few_columns, few_rows, few_values, few_bytes, within_limits, text_bytes, ids_short}
use Rattle.cell_errors.specs.declared.fault.CellError.TheVariants as error
use Rattle.cell_errors.specs.declared.fault.EvalFault.{EvalFault}
use Rattle.cell_errors.specs.declared.fault.EvalFault.TheVariants as fault
use Rattle.cell_errors.specs.Answers.{Fails}
use Rattle.csv_load.specs.Fields.{Repairs}
use Rattle.csv_load.specs.Rows.{has_row, row_of, rows_of, is_surplus, some_surplus}
use Rattle.csv_load.specs.Load.{table_in, limited}
use Rattle.csv_load.specs.Calls.{rows_for, has_room, AddsRow}

-- what is made of one column more
pub column_more : {A : Type 0} (f : ℕ × Column → A) (whole values : List A) (columns : List Column) (i : ℕ) (column : Column) (value : A) →
    whole ≡ values ++ map f (enumerate_from i (drop i columns)) → i < length columns → column ≡ get_or columns i column → value ≡ f (i, column) →
    whole ≡ (values ++ value ∷ []) ++ map f (enumerate_from (i + 1) (drop (i + 1) columns))
column_more f whole values columns i column value was lt at is =
    was ∙ rw (drop-cons columns i column, ← at, is, add-one) (simp append_assoc)

-- the rows of records that are numbered from a number on
abbrev pub rows_from : Repairs → List Column → ℕ → List (List (List ℕ)) → List Row
rows_from r columns n rs = map (row_of r columns) (filter (has_row r (length columns)) (enumerate_from n rs))

first_row : (r : Repairs) (columns : List Column) (n : ℕ) (fields : List (List ℕ)) (rs : List (List (List ℕ))) →
    rows_from r columns n (fields ∷ rs) ≡ rows_for r columns (n, fields) ++ rows_from r columns (n + 1) rs
first_row r columns n fields rs = by (has_row r (length columns) (n, fields)) refl
  where
    by : (t : Bool) → has_row r (length columns) (n, fields) ≡ t → rows_from r columns n (fields ∷ rs) ≡ rows_for r columns (n, fields) ++ rows_from r columns (n + 1) rs
    by true e = rw e refl
    by false e = rw e refl

pub row_more : (r : Repairs) (columns : List Column) (n : ℕ) (fields : List (List ℕ)) (all rest rs : List (List (List ℕ))) (old new : List Row) →
    rows_of r columns all ≡ old ++ rows_from r columns n rest → rest ≡ fields ∷ rs → new ≡ old ++ rows_for r columns (n, fields) →
    rows_of r columns all ≡ new ++ rows_from r columns (n + 1) rs
row_more r columns n fields all rest rs old new was e is = was ∙ rw (e, first_row r columns n fields rs, is) (sym (append_assoc old (rows_for r columns (n, fields)) (rows_from r columns (n + 1) rs)))

pub rows_end : (r : Repairs) (columns : List Column) (n : ℕ) (all rest : List (List (List ℕ))) (rows : List Row) →
    rows_of r columns all ≡ rows ++ rows_from r columns n rest → rest ≡ [] → rows ≡ rows_of r columns all
rows_end r columns n all rest rows was e = sym (was ∙ rw e (append-nil rows))

surplus_apart : (whole before one after : Bool) → whole ≡ (before || (one || after)) → whole ≡ ((before || one) || after)
surplus_apart whole true one after e = e
surplus_apart whole false one after e = e

pub surplus_more : (width : ℕ) (all rest rs : List (List (List ℕ))) (fields : List (List ℕ)) (before one : Bool) → some_surplus width all ≡ (before || some_surplus width rest) →
    rest ≡ fields ∷ rs → one ≡ is_surplus width fields → some_surplus width all ≡ ((before || one) || some_surplus width rs)
surplus_more width all rest rs fields before one was e is = surplus_apart _ before one (some_surplus width rs) (was ∙ rw (e, is) refl)

pub count_more : (all rest rs : List (List (List ℕ))) (fields : List (List ℕ)) (n : ℕ) → length all ≡ n + length rest → rest ≡ fields ∷ rs → length all ≡ n + 1 + length rs
count_more all rest rs fields n was e = let size = ap length e in omega arith

-- more records than numbers
pub too_many_records : (rs : List (List (List ℕ))) (t : TableData) → 4294967295 < length rs → limited rs t ≡ Err error.TooLarge
too_many_records rs t more =
    let e : nat_le (length rs) 4294967295 ≡ false = grind (arith, nat_tests) in
    rw e refl

pub past : (counted : Bool) (rs : List (List (List ℕ))) (t : TableData) → nat_le (length rs) 4294967295 ≡ counted → within_limits t ≡ false → limited rs t ≡ Err error.TooLarge
past true rs t c e = rw (c, e) refl
past false rs t c e = rw c refl

-- more rows than there is room for
pub too_many_rows : (rs : List (List (List ℕ))) (t : TableData) (n : ℕ) → n + 1 ≤ length t.rows → has_room n (length t.columns) ≡ false → limited rs t ≡ Err error.TooLarge
too_many_rows rs t n more full = past (nat_le (length rs) 4294967295) rs t refl (by (few_rows (n + 1)) refl)
  where
    both_no : (a c d e : Bool) → (a && false && c && d && e) ≡ false
    both_no true c d e = refl
    both_no false c d e = refl

    third_no : (a b d e : Bool) → (a && b && false && d && e) ≡ false
    third_no true true d e = refl
    third_no true false d e = refl
    third_no false b d e = refl

    by : (few : Bool) → few_rows (n + 1) ≡ few → within_limits t ≡ false
    by false e =
        let no : few_rows (length t.rows) ≡ false = grind (arith, nat_tests) in
        rw no (both_no (few_columns (length t.columns)) (few_values (length t.rows) (length t.columns)) (few_bytes (text_bytes t.rows)) (ids_short t.rows))
    by true e =
        let many : few_values (n + 1) (length t.columns) ≡ false = rw e at full in
        let product = mul-le-mul_right (length t.columns) more in
        let no : few_values (length t.rows) (length t.columns) ≡ false = grind (arith, nat_tests) in
        rw no (third_no (few_columns (length t.columns)) (few_rows (length t.rows)) (few_bytes (text_bytes t.rows)) (ids_short t.rows))

-- no room for a row is a limit passed
pub row_fault : (r : Repairs) (columns : List Column) (n : ℕ) (fields : List (List ℕ)) (all rest rs : List (List (List ℕ))) (rows new : List Row) (f : EvalFault) →
    rows_of r columns all ≡ rows ++ rows_from r columns n rest → rest ≡ fields ∷ rs → AddsRow r columns (n, fields) rows new (Err f) →
    Fails f (limited all (table_in r columns all))
row_fault r columns n fields all rest rs rows new fault.NoMemory was e full = tt
row_fault r columns n fields all rest rs rows new (fault.Error why) was e full =
    let more = row_more r columns n fields all rest rs rows (rows ++ rows_for r columns (n, fields)) was e refl in
    let one : length (rows_for r columns (n, fields)) ≡ 1 = rw full.has refl in
    let size = ap length more in
    let front = length-append rows (rows_for r columns (n, fields)) in
    let whole = length-append (rows ++ rows_for r columns (n, fields)) (rows_from r columns (n + 1) rs) in
    rw full.too_large (too_many_rows all (table_in r columns all) (length rows) (omega arith) full.full)
