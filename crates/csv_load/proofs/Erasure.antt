-- Erasing a loaded table gives the plain load's.
use Rattle.std.proofs.Common.{◌≡◌, ◌+◌, ℕ, List, [], ◌∷◌, length, map, Bool, true, false, Option, refl, sym, ◌∙◌, ap}
use Rattle.std.specs.Prelude.{◌&&◌, nat_le, slice_get, filter, Result, Ok, Err, if◌then◌else◌}
use Rattle.std.specs.List.{enumerate_from}
use Rattle.std.specs.Result.{result_map_both}
use Rattle.value_types.specs.declared.value.ColumnType.{ColumnType}
use Rattle.value_types.specs.declared.value.Value.{Value}
use Rattle.dataset_types.specs.declared.load_options.Repair.{Repair}
use Rattle.dataset_types.specs.declared.picks.Pick.{Pick}
use Rattle.dataset_types.specs.declared.picks.Site.TheVariants as site
use Rattle.dataset_types.specs.declared.column.Column.{Column}
use Rattle.dataset_types.specs.declared.row.Marked.{Marked}
use Rattle.dataset_types.specs.Tables.{TableData, within_limits}
use Rattle.dataset_types.specs.Plain.{PlainTable, PlainRow, erased, erased_row, plain_within}
use Rattle.dataset_types.proofs.PlainLemmas.{within_erased}
use Rattle.cell_errors.specs.Answers.{Answer}
use Rattle.cell_errors.specs.declared.fault.CellError.TheVariants as error
use Rattle.csv_load.specs.Guess.{columns_of}
use Rattle.csv_load.specs.Fields.{Repairs, field_value, marked_value}
use Rattle.csv_load.specs.Rows.{Numbered, numbered, has_row, by_columns, row_of}
use Rattle.csv_load.specs.Load.{records_of, table_in, limited, loaded_from, load_of}
use Rattle.csv_load.specs.Plain.{plain_row_of, plain_table_in, plain_limited, plain_from, plain_load_of}
use Rattle.csv_load.specs.Laws.{Erases}

values_erased : (r : Repairs) (p : Numbered) (n : ℕ) (columns : List Column) →
    map (λ m. m.value) (map (λ c. marked_value r c.1.kind (site.Field p.0 (c.0 + 1)) (slice_get p.1 c.0)) (enumerate_from n columns))
    ≡ map (λ c. field_value r c.1.kind (site.Field p.0 (c.0 + 1)) (slice_get p.1 c.0)) (enumerate_from n columns)
values_erased r p n [] = refl
values_erased r p n (c ∷ cs) = ap (λ vs. field_value r c.kind (site.Field p.0 (n + 1)) (slice_get p.1 n) ∷ vs) (values_erased r p (n + 1) cs)

row_erased : (r : Repairs) (columns : List Column) (p : Numbered) → erased_row (row_of r columns p) ≡ plain_row_of r columns p
row_erased r columns p = let e = values_erased r p 0 columns in λ i. record { id = (plain_row_of r columns p).id; values = e i }

rows_erased : (r : Repairs) (columns : List Column) (ps : List Numbered) → map erased_row (map (row_of r columns) ps) ≡ map (plain_row_of r columns) ps
rows_erased r columns [] = refl
rows_erased r columns (p ∷ ps) = λ i. row_erased r columns p i ∷ rows_erased r columns ps i

table_erased : (r : Repairs) (columns : List Column) (rs : List (List (List ℕ))) → erased (table_in r columns rs) ≡ plain_table_in r columns rs
table_erased r columns rs =
    let e = rows_erased r columns (filter (has_row r (length columns)) (numbered rs)) in λ i. record { columns = columns; rows = e i }

one_limit : (b : Bool) (t : TableData) →
    result_map_both erased (λ e. e) (if b then Ok t else Err error.TooLarge) ≡ (if b then Ok (erased t) else Err error.TooLarge)
one_limit true t = refl
one_limit false t = refl

limit_erased : (rs : List (List (List ℕ))) (t : TableData) → result_map_both erased (λ e. e) (limited rs t) ≡ plain_limited rs (erased t)
limit_erased rs t = rw (within_erased t) (one_limit (nat_le (length rs) 4294967295 && within_limits t) t)

from_erased : (r : Repairs) (types : List (Option ColumnType)) (all : List (List (List ℕ))) → result_map_both erased (λ e. e) (loaded_from r types all) ≡ plain_from r types all
from_erased r types [] = refl
from_erased r types (header ∷ rs) =
    limit_erased rs (table_in r (columns_of types header rs) rs) ∙ ap (plain_limited rs) (table_erased r (columns_of types header rs) rs)

pub erases : (bytes : List ℕ) (types : List (Option ColumnType)) (repair : Repair) (picks : List Pick) (cell : ℕ) → Erases bytes types repair picks cell
unfolding load_of plain_load_of
erases bytes types repair picks cell = from_erased (record { repair = repair; picks = picks; cell = cell }) types (records_of bytes)
