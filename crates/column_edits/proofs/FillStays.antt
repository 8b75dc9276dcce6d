-- A table that new values in a column leave as it is.
use Rattle.std.proofs.Common.{◌≡◌, ℕ, suc, ◌+◌, Bool, true, false, ◌&&◌, Some, Ok, List, [], ◌∷◌, map, length, refl, subst, ap, ◌∙◌, sym, arith}
use Rattle.std.specs.Prelude.{IsTrue, ◌==◌, ◌||◌, if◌then◌else◌, unwrap_or, slice_get}
use Rattle.std.specs.Option.{is_some}
use Rattle.std.specs.List.{enumerate_from}
use Rattle.std.proofs.lemmas.Bool.{and_parts}
use Rattle.std.proofs.lemmas.Bool.Decides.{Decides-eqb}
use Rattle.dataset_types.specs.declared.column.Column.{Column}
use Rattle.dataset_types.specs.declared.row.Marked.{Marked}
use Rattle.dataset_types.specs.declared.row.Row.{Row}
use Rattle.dataset_types.specs.Same.{same_marked, marked_decides}
use Rattle.dataset_types.specs.Tables.{TableData, IsTable, table_of, values_fit, row_fits, rows_fit}
use Rattle.expr_meaning.specs.Names.{Name}
use Rattle.edit_results.specs.Results.{whole}
use Rattle.edit_results.proofs.Whole.{whole_of}
use Rattle.column_edits.specs.declared.layout.LaidColumn.{LaidColumn}
use Rattle.column_edits.specs.Layout.{standing, value_from, laid}
use Rattle.column_edits.specs.Plans.{has_name}
use Rattle.column_edits.specs.Changes.{laid_row}
use Rattle.column_edits.specs.Formula.{emptied, emptied_at, refilled}
use Rattle.column_edits.specs.Filling.{refilled_rows, filled, stay, all_stay}
use Rattle.column_edits.proofs.PlanRules.{from_here, from_next, from_start}

module _ (name : Name) (new : Marked) where
  -- the columns from a place on
  abbrev refilled_from : ℕ → List Column → List LaidColumn
  refilled_from n columns = emptied_at name (map standing (enumerate_from n columns))

  -- the column at a place, which takes the new value where it has the name
  abbrev laid_as : Bool → ℕ → Column → LaidColumn
  laid_as b n c = if b then emptied (standing (n, c)) else standing (n, c)

  values_stay : (all : List Marked) (n : ℕ) (columns : List Column) (values : List Marked) → length values ≡ length columns →
      ((q : ℕ) → slice_get all (n + q) ≡ slice_get values q) → IsTrue (stay (refilled_from n columns) new values) → laid new (refilled_from n columns) all ≡ values
  values_stay all n [] [] e h k = refl
  values_stay all n [] (v ∷ vs) e h k = absurd (omega (arith, e))
  values_stay all n (c ∷ cs) [] e h k = absurd (omega (arith, e))
  values_stay all n (c ∷ cs) (v ∷ vs) e h k =
      by (has_name name (standing (n, c))) k
      (values_stay all (n + 1) cs vs (omega (arith, e)) (λ q. subst (λ m. slice_get all m ≡ slice_get vs q) (from_next n q) (h (suc q))))
    where
      one : slice_get all n ≡ Some v
      one = subst (λ m. slice_get all m ≡ Some v) (from_here n) (h 0)

      by : (b : Bool) → IsTrue ((is_some (laid_as b n c).source || same_marked v new) && stay (refilled_from (n + 1) cs) new vs) →
          (IsTrue (stay (refilled_from (n + 1) cs) new vs) → laid new (refilled_from (n + 1) cs) all ≡ vs) →
          value_from new all (laid_as b n c).source ∷ laid new (refilled_from (n + 1) cs) all ≡ v ∷ vs
      by true t rest =
          let p = and_parts (same_marked v new) (stay (refilled_from (n + 1) cs) new vs) t in
          let same = sym ((marked_decides v new).0 p.0) in
          let more = rest p.1 in λ i. same i ∷ more i
      by false t rest = let more = rest t in λ i. unwrap_or (one i) new ∷ more i

row_stays : (name : Name) (new : Marked) (columns : List Column) (r : Row) → IsTrue (row_fits columns r) → IsTrue (stay (refilled name columns) new r.values) →
    laid_row (refilled name columns) new r ≡ r
row_stays name new columns r fits e =
    let p = and_parts (length r.values == length columns) (values_fit columns r.values) fits in
    let n = (Decides-eqb (length r.values) (length columns)).0 p.0 in
    let same = values_stay name new r.values 0 columns r.values n (λ q. ap (slice_get r.values) (from_start q)) e in
    λ i. record { id = r.id; sure = r.sure; values = same i }

rows_stay : (name : Name) (columns : List Column) (new : List Marked) (rows : List Row) → length new ≡ length rows → IsTrue (rows_fit columns rows) →
    IsTrue (all_stay (refilled name columns) new rows) → refilled_rows (refilled name columns) new rows ≡ rows
rows_stay name columns [] [] n fits e = refl
rows_stay name columns [] (r ∷ rs) n fits e = absurd (omega (arith, n))
rows_stay name columns (m ∷ ms) [] n fits e = absurd (omega (arith, n))
rows_stay name columns (m ∷ ms) (r ∷ rs) n fits e =
    let layout = refilled name columns in
    let fit = and_parts (row_fits columns r) (rows_fit columns rs) fits in
    let p = and_parts (stay layout m r.values) (all_stay layout ms rs) e in
    let one = row_stays name m columns r fit.0 p.0 in
    let more = rows_stay name columns ms rs (omega (arith, n)) fit.1 p.1 in
    λ i. one i ∷ more i

pub filled_stays : (name : Name) (new : List Marked) (t : TableData) → IsTable t → length new ≡ length t.rows → IsTrue (all_stay (refilled name t.columns) new t.rows) →
    whole (filled name new t) ≡ Ok t
filled_stays name new t is long e =
    ap whole (λ i. table_of t.columns (rows_stay name t.columns new t.rows long is.fitting e i) t.is_open t.is_loose) ∙ whole_of t is
