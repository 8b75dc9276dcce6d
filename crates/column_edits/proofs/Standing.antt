-- A table under the layout of its columns as they stand is that table.
use Rattle.std.proofs.Common.{◌≡◌, ℕ, suc, ◌+◌, Some, Ok, List, [], ◌∷◌, map, length, refl, subst, ap, ◌∙◌, arith}
use Rattle.std.specs.Prelude.{IsTrue, ◌==◌, unwrap_or, slice_get}
use Rattle.std.specs.List.{enumerate_from}
use Rattle.std.proofs.lemmas.Bool.{and_parts}
use Rattle.std.proofs.lemmas.Bool.Decides.{Decides-eqb}
use Rattle.dataset_types.specs.declared.column.Column.{Column}
use Rattle.dataset_types.specs.declared.row.Marked.{Marked}
use Rattle.dataset_types.specs.declared.row.Row.{Row}
use Rattle.dataset_types.specs.Tables.{TableData, IsTable, table_of, values_fit, row_fits, rows_fit}
use Rattle.edit_results.specs.Results.{whole}
use Rattle.edit_results.proofs.Whole.{whole_of}
use Rattle.column_edits.specs.declared.layout.LaidColumn.{LaidColumn}
use Rattle.column_edits.specs.Layout.{standing, as_they_stand, laid}
use Rattle.column_edits.specs.Changes.{blank, laid_row, laid_out}
use Rattle.column_edits.proofs.PlanRules.{from_here, from_next, from_start}
use Rattle.column_edits.proofs.TableRules.{stand_columns}

values_stand : (new : Marked) (all : List Marked) (n : ℕ) (columns : List Column) (values : List Marked) → length values ≡ length columns →
    ((q : ℕ) → slice_get all (n + q) ≡ slice_get values q) → laid new (map standing (enumerate_from n columns)) all ≡ values
values_stand new all n [] [] e h = refl
values_stand new all n [] (v ∷ vs) e h = absurd (omega (arith, e))
values_stand new all n (c ∷ cs) [] e h = absurd (omega (arith, e))
values_stand new all n (c ∷ cs) (v ∷ vs) e h =
    let one = subst (λ m. slice_get all m ≡ Some v) (from_here n) (h 0) in
    let more = values_stand new all (n + 1) cs vs (omega (arith, e)) (λ q. subst (λ m. slice_get all m ≡ slice_get vs q) (from_next n q) (h (suc q))) in
    λ i. unwrap_or (one i) new ∷ more i

row_stands : (columns : List Column) (r : Row) → IsTrue (row_fits columns r) → laid_row (as_they_stand columns) blank r ≡ r
row_stands columns r g =
    let p = and_parts (length r.values == length columns) (values_fit columns r.values) g in
    let n = (Decides-eqb (length r.values) (length columns)).0 p.0 in
    let same = values_stand blank r.values 0 columns r.values n (λ q. ap (slice_get r.values) (from_start q)) in
    λ i. record { id = r.id; sure = r.sure; values = same i }

rows_stand : (columns : List Column) (rows : List Row) → IsTrue (rows_fit columns rows) → map (laid_row (as_they_stand columns) blank) rows ≡ rows
rows_stand columns [] g = refl
rows_stand columns (r ∷ rs) g =
    let p = and_parts (row_fits columns r) (rows_fit columns rs) g in
    let one = row_stands columns r p.0 in
    let more = rows_stand columns rs p.1 in
    λ i. one i ∷ more i

pub table_stands : (layout : List LaidColumn) (t : TableData) → IsTable t → layout ≡ as_they_stand t.columns → whole (laid_out layout t) ≡ Ok t
table_stands layout t is e = rw e (ap whole (λ i. table_of (stand_columns t.columns i) (rows_stand t.columns t.rows is.fitting i) t.is_open t.is_loose) ∙ whole_of t is)
