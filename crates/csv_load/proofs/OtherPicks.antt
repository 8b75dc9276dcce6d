-- What is shown of a loaded table has no picks in it.
use Rattle.std.proofs.Common.{◌≡◌, ◌+◌, ℕ, List, [], ◌∷◌, length, map, Bool, true, false, Option, Some, None, refl, sym, ◌∙◌, ap}
use Rattle.std.specs.Prelude.{◌&&◌, ◌||◌, not, nat_le, slice_get, filter, is_none, unwrap_or, Result, Ok, Err, if◌then◌else◌}
use Rattle.std.specs.List.{enumerate_from}
use Rattle.value_types.specs.declared.value.ColumnType.{ColumnType}
use Rattle.value_types.specs.declared.value.Value.{Value}
use Rattle.value_types.specs.declared.row_id.RowId.{Rec}
use Rattle.dataset_types.specs.declared.load_options.Repair.{Repair}
use Rattle.dataset_types.specs.declared.picks.Pick.{Pick}
use Rattle.dataset_types.specs.declared.picks.Site.{Site}
use Rattle.dataset_types.specs.declared.picks.Site.TheVariants as site
use Rattle.dataset_types.specs.declared.column.Column.{Column}
use Rattle.dataset_types.specs.declared.row.Row.{Row}
use Rattle.dataset_types.specs.Tables.{TableData, within_limits}
use Rattle.caveat_marks.specs.Shown.{ShownRow, InOrder, ShownTable, shown, shown_row, shown_value}
use Rattle.cell_errors.specs.declared.fault.CellError.TheVariants as error
use Rattle.csv_load.specs.Guess.{columns_of}
use Rattle.csv_load.specs.Fields.{Repairs, value_in, site_value, marked_value}
use Rattle.csv_load.specs.Rows.{Numbered, has_row, row_of, rows_of, is_surplus, some_surplus}
use Rattle.csv_load.specs.Load.{records_of, table_in, limited, loaded, loaded_from, load_of}
use Rattle.csv_load.specs.Laws.{ShowsTheSame}

one_shown : (o : Option Value) (d : Value) → (if is_none o then None else Some (unwrap_or o d)) ≡ o
one_shown None d = refl
one_shown (Some v) d = refl

-- a row with its own values alone
abbrev bare_row : List Column → Numbered → ShownRow
bare_row columns p = record { id = Rec p.0; values = map (λ c. value_in c.1.kind (slice_get p.1 c.0)) (enumerate_from 0 columns) }

values_shown : (r : Repairs) (p : Numbered) (n : ℕ) (columns : List Column) →
    map shown_value (map (λ c. marked_value r c.1.kind (site.Field p.0 (c.0 + 1)) (slice_get p.1 c.0)) (enumerate_from n columns))
    ≡ map (λ c. value_in c.1.kind (slice_get p.1 c.0)) (enumerate_from n columns)
values_shown r p n [] = refl
values_shown r p n (c ∷ cs) =
    let one = one_shown (value_in c.kind (slice_get p.1 n)) (site_value r c.kind (site.Field p.0 (n + 1))) in
    let more = values_shown r p (n + 1) cs in
    λ i. one i ∷ more i

row_shown : (r : Repairs) (columns : List Column) (p : Numbered) → shown_row (row_of r columns p) ≡ bare_row columns p
row_shown r columns p = let e = values_shown r p 0 columns in λ i. record { id = Rec p.0; values = e i }

module _ (r : Repairs) (columns : List Column) where
  abbrev sure_rows : List Numbered → List ShownRow
  sure_rows ps = map shown_row (filter (λ row. row.sure) (map (row_of r columns) (filter (has_row r (length columns)) ps)))

  abbrev bare_rows : List Numbered → List ShownRow
  bare_rows ps = map (bare_row columns) (filter (λ p. not (is_surplus (length columns) p.1)) ps)

  rows_shown : (ps : List Numbered) → sure_rows ps ≡ bare_rows ps
  rows_shown [] = refl
  rows_shown (p ∷ ps) = by (is_surplus (length columns) p.1) (has_row r (length columns) p) refl refl (rows_shown ps)
    where
      by : (surplus has : Bool) → is_surplus (length columns) p.1 ≡ surplus → has_row r (length columns) p ≡ has → sure_rows ps ≡ bare_rows ps → sure_rows (p ∷ ps) ≡ bare_rows (p ∷ ps)
      by true true s h more = rw (h, s) more
      by true false s h more = rw (h, s) more
      by false true s h more = rw (h, s) (λ i. row_shown r columns p i ∷ more i)
      by false false s h more = cc (rw s at h)

-- what is shown of the table of a file, whatever the picks
abbrev bare_table : List Column → List (List (List ℕ)) → ShownTable
bare_table columns rs = record {
  columns = columns;
  rows = InOrder (map (bare_row columns) (filter (λ p. not (is_surplus (length columns) p.1)) (enumerate_from 1 rs)));
  is_open = some_surplus (length columns) rs;
  is_loose = false;
}

table_shown : (r : Repairs) (columns : List Column) (rs : List (List (List ℕ))) → shown (table_in r columns rs) ≡ bare_table columns rs
table_shown r columns rs =
    let e = rows_shown r columns (enumerate_from 1 rs) in
    λ i. record { columns = columns; rows = InOrder (e i); is_open = some_surplus (length columns) rs; is_loose = false }

within : (b : Bool) (t u : TableData) → (if b then Ok t else Err error.TooLarge) ≡ Ok u → t ≡ u
within true t u e = cc e
within false t u e = cc e

-- under two lists of picks
from_shown : (r s : Repairs) (types : List (Option ColumnType)) (all : List (List (List ℕ))) (a b : TableData) →
    loaded_from r types all ≡ Ok a → loaded_from s types all ≡ Ok b → shown a ≡ shown b
from_shown r s types [] a b e f = cc e
from_shown r s types (header ∷ rs) a b e f =
    let columns = columns_of types header rs in
    let one = within _ (table_in r columns rs) a e in
    let other = within _ (table_in s columns rs) b f in
    rw (← one, ← other) (table_shown r columns rs ∙ sym (table_shown s columns rs))

pub shows_the_same : (bytes : List ℕ) (types : List (Option ColumnType)) (repair : Repair) (picks others : List Pick) (cell : ℕ) → ShowsTheSame bytes types repair picks others cell
unfolding load_of
shows_the_same bytes types repair picks others cell a b e f =
    from_shown (record { repair = repair; picks = picks; cell = cell }) (record { repair = repair; picks = others; cell = cell }) types (records_of bytes) a b e f
