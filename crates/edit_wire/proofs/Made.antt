-- The parts of a make cell's table keep the rules of a table.
use Rattle.std.proofs.Common.{◌≡◌, ℕ, suc, ◌+◌, ◌&&◌, List, [], ◌∷◌, ◌++◌, length, Bool, true, false, refl, ap, sym, subst, ◌∙◌, eq-eqb, append_assoc, append-nil, arith, Option, Some, None}
use Rattle.std.specs.Prelude.{if◌then◌else◌, option_and_then}
use Rattle.std.specs.List.{list_all}
use Rattle.std.proofs.lemmas.Bool.Decides.{same_from_decides}
use Rattle.std.specs.Prelude.{◌↔◌, IsTrue}
use Rattle.serde_json.specs.Data.{Data, Items, no_items, item}
use Rattle.serde_json.specs.Find.{as_array}
use Rattle.serde_json.specs.View.{items_view}
use Rattle.serde_json.specs.declared.value.Value.{Value as Json}
use Rattle.value_types.specs.Numbers.{widened}
use Rattle.value_types.specs.declared.value.ColumnType.{ColumnType}
use Rattle.value_types.specs.declared.value.ColumnType.TheVariants as kind
use Rattle.value_types.specs.declared.value.Value.{Value}
use Rattle.value_types.specs.declared.value.Value.TheVariants as value
use Rattle.value_types.specs.declared.row_id.RowId.{Rec}
use Rattle.dataset_types.specs.Fitting.{fitted}
use Rattle.dataset_types.specs.Tables.{Distinct, few_rows, fits, values_fit, row_fits, rows_fit, all_sure, column_names, row_ids, names_apart, numbered, table_of, within_limits}
use Rattle.dataset_types.proofs.RuleLemmas.{names_decide}
use Rattle.dataset_types.proofs.TableLemmas.{distinct_numbered}
use Rattle.dataset_types.specs.declared.column.Column.{Column}
use Rattle.dataset_types.specs.declared.row.Marked.{Marked}
use Rattle.dataset_types.specs.declared.row.Row.{Row}
use Rattle.edit_wire.specs.Plain.{unmarked}
use Rattle.json_fields.specs.Values.{value_of}
use Rattle.edit_wire.specs.Make.{certain, values_of, row_of, rows_from, heading_of, limited, table_from}
use Rattle.json_fields.proofs.Options.{mapped, chained, first_and_rest}

-- ---- values

tested : (b : Bool) (v w : Value) → (if b then Some v else None) ≡ Some w → (b ≡ true) × (w ≡ v)
tested true v w e = (refl, cc)
tested false v w e = absurd (cc)

as_it_is : (k : ColumnType) (v w : Value) → (if fits v k then Some v else None) ≡ Some w → fits w k ≡ true
as_it_is k v w e =
    let t = tested (fits v k) v w e in
    ap (λ x. fits x k) t.1 ∙ t.0

-- what is fitted fits
fitted_fits : (k : ColumnType) (v w : Value) → fitted k v ≡ Some w → fits w k ≡ true
fitted_fits kind.Fixed (value.Int n) w e = ap (λ x. fits x kind.Fixed) (mapped value.Fixed (widened n) w e).2
fitted_fits k v w e = as_it_is k v w e

-- one value a column, each of its column's type, and none marked
abbrev pub AreValues : List Column → List Marked → Type 0
AreValues columns values = (length values ≡ length columns) × (values_fit columns values ≡ true) × (unmarked values ≡ true)

one_more : (c : Column) (cs : List Column) (v : Value) (vs : List Marked) → fits v c.kind ≡ true → AreValues cs vs → AreValues (c ∷ cs) (certain v ∷ vs)
one_more c cs v vs fitting others = (ap suc others.0, rw fitting others.1, others.2)

are_values : (cs : List Column) (ds : Items) (vs : List Marked) → values_of cs ds ≡ Some vs → AreValues cs vs
are_values [] no_items [] e = (refl, refl, refl)
are_values [] no_items (v ∷ vs) e = absurd (cc)
are_values [] (item d ds) vs e = absurd (cc)
are_values (c ∷ cs) no_items vs e = absurd (cc)
are_values (c ∷ cs) (item d ds) vs e =
    let split = first_and_rest certain (option_and_then (fitted c.kind) (value_of d)) (values_of cs ds) vs e in
    let fit = chained (fitted c.kind) (value_of d) split.0 split.2 in
    let more : AreValues (c ∷ cs) (certain split.0 ∷ split.1) =
    one_more c cs split.0 split.1 (fitted_fits c.kind fit.0 split.0 fit.2) (are_values cs ds split.1 split.3) in
    subst (AreValues (c ∷ cs)) (sym split.4) more

-- ---- rows

-- a sure row of the number, which fits the columns
pub record IsRow (columns : List Column) (n : ℕ) (row : Row) : Type 0 where
  pub id : row.id ≡ Rec n
  pub sure : row.sure ≡ true
  pub fitting : row_fits columns row ≡ true
  pub certain : unmarked row.values ≡ true

fitting_values : (cs : List Column) (row : Row) → AreValues cs row.values → row_fits cs row ≡ true
fitting_values cs row values = rw (eq-eqb (length row.values) (length cs) values.0) values.1

row_is : (cs : List Column) (n : ℕ) (d : Data) (row : Row) → row_of cs n d ≡ Some row → IsRow cs n row
row_is cs n d row e =
    let made = mapped (λ (vs : List Marked). let r : Row = record { id = Rec n; sure = true; values = vs } in r) (option_and_then (values_of cs) (as_array d)) row e in
    let read = chained (values_of cs) (as_array d) made.0 made.1 in
    let values : AreValues cs row.values = subst (λ (r : Row). AreValues cs r.values) (sym made.2) (are_values cs read.0 made.0 read.2) in
    record {
      id = ap (λ (r : Row). r.id) made.2;
      sure = ap (λ (r : Row). r.sure) made.2;
      fitting = fitting_values cs row values;
      certain = values.2;
    }

-- how many items there are
abbrev pub count : Items → ℕ
count no_items = 0
count (item d ds) = suc (count ds)

-- rows that fit the columns, sure, unmarked and numbered from after n on
pub record AreRows (columns : List Column) (n : ℕ) (rows : List Row) : Type 0 where
  pub fitting : rows_fit columns rows ≡ true
  pub sure : all_sure rows ≡ true
  pub certain : list_all (λ r. unmarked r.values) rows ≡ true
  pub ids : numbered n ++ row_ids rows ≡ numbered (n + length rows)

row_more : (cs : List Column) (n : ℕ) (row : Row) (rows : List Row) → IsRow cs (suc n) row → AreRows cs (suc n) rows → AreRows cs n (row ∷ rows)
row_more cs n row rows first others = record {
  fitting = rw first.fitting others.fitting;
  sure = rw first.sure others.sure;
  certain = rw first.certain others.certain;
  ids =
      let same : suc n + length rows ≡ n + suc (length rows) = omega arith in
      ap (λ i. numbered n ++ i ∷ row_ids rows) first.id
      ∙ (sym (append_assoc (numbered n) (Rec (suc n) ∷ []) (row_ids rows)) ∙ (others.ids ∙ ap numbered same));
}

no_more : (n : ℕ) → numbered n ++ [] ≡ numbered (n + 0)
no_more n = let same : n ≡ n + 0 = omega arith in append-nil (numbered n) ∙ ap numbered same

pub are_rows : (cs : List Column) (n : ℕ) (ds : Items) (rows : List Row) → rows_from cs (suc n) ds ≡ Some rows → AreRows cs n rows × (length rows ≡ count ds)
are_rows cs n no_items [] e = (record { fitting = refl; sure = refl; certain = refl; ids = no_more n }, refl)
are_rows cs n no_items (row ∷ rows) e = absurd (cc)
are_rows cs n (item d ds) rows e =
    let split = first_and_rest (λ (r : Row). r) (row_of cs (suc n) d) (rows_from cs (suc (suc n)) ds) rows e in
    let others = are_rows cs (suc n) ds split.1 split.3 in
    let more : AreRows cs n (split.0 ∷ split.1) = row_more cs n split.0 split.1 (row_is cs (suc n) d split.0 split.2) others.0 in
    subst (λ rs. AreRows cs n rs × (length rs ≡ count (item d ds))) (sym split.4) (more, ap suc others.1)

-- the same, where the columns are seen as a slice
pub rows_read : (cs seen : List Column) (ds : Items) (o : Option (List Row)) (rows : List Row) → seen ≡ cs → o ≡ rows_from seen 1 ds → o ≡ Some rows → AreRows cs 0 rows
rows_read cs seen ds o rows same read there =
    let from : rows_from cs 1 ds ≡ Some rows = ap (λ c. rows_from c 1 ds) (sym same) ∙ (sym read ∙ there) in
    (are_rows cs 0 ds rows from).0

-- the ids of rows that are numbered from 1 are distinct
pub distinct_ids : (cs : List Column) (rows : List Row) → AreRows cs 0 rows → Distinct (row_ids rows)
distinct_ids cs rows are = subst Distinct (sym are.ids) (distinct_numbered (0 + length rows))

second_fails : (a b c d e : Bool) → b ≡ false → (a && b && c && d && e) ≡ false
second_fails a true c d e h = absurd (cc)
second_fails true false c d e h = refl
second_fails false false c d e h = refl

beyond_limit : (cs : List Column) (rows : List Row) → few_rows (length rows) ≡ false → within_limits (table_of cs rows false false) ≡ false
beyond_limit cs rows many = second_fails _ _ _ _ _ many

too_long : (cs : List Column) (ds : Items) (o : Option (List Row)) → ((rows : List Row) → o ≡ Some rows → length rows ≡ count ds)
    → few_rows (count ds) ≡ false → option_and_then (limited cs) o ≡ None
too_long cs ds None counted many = refl
too_long cs ds (Some rows) counted many =
    let more : few_rows (length rows) ≡ false = ap few_rows (counted rows refl) ∙ many in
    ap (λ b. if b then Some (table_of cs rows false false) else None) (beyond_limit cs rows more)

under_heading : (ds : Items) (o : Option (List Column)) → few_rows (count ds) ≡ false → None ≡ option_and_then (λ cs. option_and_then (limited cs) (rows_from cs 1 ds)) o
under_heading ds None many = refl
under_heading ds (Some cs) many = sym (too_long cs ds (rows_from cs 1 ds) (λ rows e. (are_rows cs 0 ds rows e).1) many)

-- more rows than a dataset may have
pub too_many : (heads ds : Items) → few_rows (count ds) ≡ false → None ≡ table_from heads ds
too_many heads ds many = under_heading ds (heading_of heads) many

-- a list has as many items as values
pub counted : (vs : List Json) → count (items_view vs) ≡ length vs
counted [] = refl
counted (v ∷ vs) = ap suc (counted vs)

-- ---- columns

-- a test that passes exactly the distinct names is the one two by two
pub apart : (passed : Bool) (cs : List Column) → IsTrue passed ↔ Distinct (column_names cs) → passed ≡ names_apart cs
apart passed cs passes = same_from_decides passed (names_apart cs) passes (names_decide cs)

-- the names of a heading are distinct
pub distinct : (cs : List Column) → names_apart cs ≡ true → Distinct (column_names cs)
distinct cs e = (names_decide cs).0 e
