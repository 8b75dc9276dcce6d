-- The parts of a plain table are read back from their JSON.
use Rattle.std.proofs.Common.{◌≡◌, ℕ, zero, suc, ◌+◌, ◌&&◌, List, [], ◌∷◌, ◌++◌, map, length, Bool, true, false, not, refl, ap, ap₂, sym, ◌∙◌, add-zero, append_assoc, append-nil, arith, Some, None}
use Rattle.std.specs.Prelude.{◌==◌, if◌then◌else◌}
use Rattle.std.specs.List.{list_all}
use Rattle.std.proofs.lemmas.Bool.{le-leb, eqb-true, and_parts}
use Rattle.serde_json.specs.Data.{Data, Items, no_items, item}
use Rattle.serde_json.specs.Find.{as_array}
use Rattle.value_types.specs.declared.value.ColumnType.{ColumnType}
use Rattle.value_types.specs.declared.value.ColumnType.TheVariants as kind
use Rattle.value_types.specs.declared.value.Value.{Value}
use Rattle.value_types.specs.declared.value.Value.TheVariants as value
use Rattle.value_types.specs.declared.row_id.RowId.{RowId, Rec}
use Rattle.dataset_types.specs.Fitting.{fitted}
use Rattle.dataset_types.specs.Tables.{TableData, IsTable, few_columns, fits, values_fit, row_fits, rows_fit, all_sure, row_ids, numbered, table_of, within_limits}
use Rattle.dataset_types.proofs.RuleLemmas.{names_decide}
use Rattle.dataset_types.specs.declared.column.Column.{Column}
use Rattle.dataset_types.specs.declared.row.Marked.{Marked}
use Rattle.dataset_types.specs.declared.row.Row.{Row}
use Rattle.json_fields.specs.Json.{all_of}
use Rattle.edit_wire.specs.Make.{certain, values_of, row_of, rows_from, heading_of, table_from}
use Rattle.json_fields.specs.Columns.{column_in}
use Rattle.edit_wire.specs.Plain.{unmarked, IsPlainTable}
use Rattle.json_fields.specs.Values.{value_of}
use Rattle.json_fields.specs.Written.{bare_values, values_in}
use Rattle.json_fields.proofs.Options.{chained, first_and_rest}

-- ---- values

passed : (b : Bool) (v : Value) → b ≡ true → (if b then Some v else None) ≡ Some v
passed b v e = ap (λ x. if x then Some v else None) e

-- a value that fits is fitted as it is
fitted_same : (k : ColumnType) (v : Value) → fits v k ≡ true → fitted k v ≡ Some v
fitted_same kind.Fixed (value.Int n) e = absurd (cc)
fitted_same k v e = passed (fits v k) v e

not-true : (b : Bool) → not b ≡ true → b ≡ false
not-true true e = absurd (cc)
not-true false e = refl

unmarked_is : (m : Marked) → not m.marked ≡ true → certain m.value ≡ m
unmarked_is m e = ap (λ b. let made : Marked = record { value = m.value; marked = b } in made) (sym (not-true m.marked e))

pub values_back : (cs : List Column) (ms : List Marked) (ds : Items) → length ms ≡ length cs → values_fit cs ms ≡ true → unmarked ms ≡ true
    → all_of value_of ds ≡ Some (map (λ m. m.value) ms) → values_of cs ds ≡ Some ms
values_back [] [] no_items long fit plain e = refl
values_back [] [] (item d ds) long fit plain e = let split = first_and_rest (λ (v : Value). v) (value_of d) (all_of value_of ds) [] e in absurd (cc)
values_back [] (m ∷ ms) ds long fit plain e = absurd (omega arith)
values_back (c ∷ cs) [] ds long fit plain e = absurd (omega arith)
values_back (c ∷ cs) (m ∷ ms) no_items long fit plain e = absurd (cc)
values_back (c ∷ cs) (m ∷ ms) (item d ds) long fit plain e =
    let split = first_and_rest (λ (v : Value). v) (value_of d) (all_of value_of ds) (map (λ (x : Marked). x.value) (m ∷ ms)) e in
    let first : value_of d ≡ Some m.value = cc in
    let others : all_of value_of ds ≡ Some (map (λ (x : Marked). x.value) ms) = cc in
    let fitting = and_parts (fits m.value c.kind) (values_fit cs ms) fit in
    let bare = and_parts (not m.marked) (unmarked ms) plain in
    rw (first, fitted_same c.kind m.value fitting.0, values_back cs ms ds (omega arith) fitting.1 bare.1 others) (ap (λ x. Some (x ∷ ms)) (unmarked_is m bare.0))

-- ---- rows

-- the ids of so many rows after the first n
abbrev ids_after : ℕ → ℕ → List RowId
ids_after n zero = []
ids_after n (suc k) = Rec (suc n) ∷ ids_after (suc n) k

numbered_on : (n k : ℕ) → numbered (n + k) ≡ numbered n ++ ids_after n k
numbered_on n zero = ap numbered (add-zero n) ∙ sym (append-nil (numbered n))
numbered_on n (suc k) =
    let same : n + suc k ≡ suc n + k = omega arith in
    ap numbered same ∙ (numbered_on (suc n) k ∙ append_assoc (numbered n) (Rec (suc n) ∷ []) (ids_after (suc n) k))

row_back : (cs : List Column) (n : ℕ) (row : Row) (d : Data) → row_fits cs row ≡ true → row.sure ≡ true → unmarked row.values ≡ true → row.id ≡ Rec n
    → bare_values d ≡ Some (values_in row) → row_of cs n d ≡ Some row
row_back cs n row d fit sure plain id e =
    let array = chained (all_of value_of) (as_array d) (values_in row) e in
    let parts = and_parts (length row.values == length cs) (values_fit cs row.values) fit in
    let long : length row.values ≡ length cs = eqb-true (length row.values) (length cs) parts.0 in
    let values = values_back cs row.values array.0 long parts.1 plain array.2 in
    rw (array.1, values) (ap₂ (λ i b. let made : Row = record { id = i; sure = b; values = row.values } in Some made) (sym id) (sym sure))

rows_back : (cs : List Column) (n : ℕ) (rows : List Row) (ds : Items) → rows_fit cs rows ≡ true → all_sure rows ≡ true → list_all (λ r. unmarked r.values) rows ≡ true
    → row_ids rows ≡ ids_after n (length rows) → all_of bare_values ds ≡ Some (map values_in rows) → rows_from cs (suc n) ds ≡ Some rows
rows_back cs n [] no_items fit sure plain ids e = refl
rows_back cs n [] (item d ds) fit sure plain ids e = let split = first_and_rest (λ (v : List Value). v) (bare_values d) (all_of bare_values ds) [] e in absurd (cc)
rows_back cs n (row ∷ rows) no_items fit sure plain ids e = absurd (cc)
rows_back cs n (row ∷ rows) (item d ds) fit sure plain ids e =
    let split = first_and_rest (λ (v : List Value). v) (bare_values d) (all_of bare_values ds) (map values_in (row ∷ rows)) e in
    let first : bare_values d ≡ Some (values_in row) = cc in
    let others : all_of bare_values ds ≡ Some (map values_in rows) = cc in
    let fits = and_parts (row_fits cs row) (rows_fit cs rows) fit in
    let sures = and_parts row.sure (all_sure rows) sure in
    let plains = and_parts (unmarked row.values) (list_all (λ (r : Row). unmarked r.values) rows) plain in
    let id : row.id ≡ Rec (suc n) = cc in
    let later : row_ids rows ≡ ids_after (suc n) (length rows) = cc in
    let here = row_back cs (suc n) row d fits.0 sures.0 plains.0 id first in
    let there = rows_back cs (suc n) rows ds fits.1 sures.1 plains.1 later others in
    rw (here, there) refl

-- ---- the table

first_holds : (a b c d e : Bool) → (a && b && c && d && e) ≡ true → a ≡ true
first_holds true b c d e h = refl
first_holds false b c d e h = absurd (cc)

limited_back : (t made : TableData) → within_limits made ≡ true → made ≡ t → (if within_limits made then Some made else None) ≡ Some t
limited_back t made within is = ap (λ b. if b then Some made else None) within ∙ ap Some is

pub heading_back : (t : TableData) (ds : Items) → IsTable t → IsPlainTable t → all_of column_in ds ≡ Some t.columns → heading_of ds ≡ Some t.columns
heading_back t ds table plain e =
    let some = le-leb 1 (length t.columns) plain.columns in
    let few = first_holds (few_columns (length t.columns)) _ _ _ _ table.limits in
    let apart = (names_decide t.columns).1 table.names in
    rw (e, some, few, apart) refl

pub table_back : (t : TableData) (heads ds : Items) → IsTable t → IsPlainTable t → all_of column_in heads ≡ Some t.columns
    → all_of bare_values ds ≡ Some (map values_in t.rows) → table_from heads ds ≡ Some t
table_back t heads ds table plain columns rows =
    let ids : row_ids t.rows ≡ ids_after 0 (length t.rows) =
    let same : length t.rows ≡ 0 + length t.rows = omega arith in
    plain.numbers ∙ (ap numbered same ∙ numbered_on 0 (length t.rows)) in
    let sure = table.sure plain.closed in
    let made : table_of t.columns t.rows false false ≡ t = ap₂ (λ x y. table_of t.columns t.rows x y) (sym plain.closed) (sym plain.ordered) in
    let heading = heading_back t heads table plain columns in
    let all = rows_back t.columns 0 t.rows ds table.fitting sure plain.certain ids rows in
    let limits : within_limits (table_of t.columns t.rows false false) ≡ true = ap within_limits made ∙ table.limits in
    rw (heading, all) (limited_back t (table_of t.columns t.rows false false) limits made)
