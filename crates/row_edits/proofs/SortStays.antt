-- A sort that leaves a dataset as it is.
use Rattle.std.proofs.Common.{◌≡◌, Ok, List, refl, ap, ◌∙◌}
use Rattle.std.specs.Prelude.{None}
use Rattle.std.specs.List.{list_any}
use Rattle.cell_errors.specs.Answers.{and_then}
use Rattle.dataset_types.specs.Tables.{TableData, IsTable, table_of}
use Rattle.relations.specs.declared.parts.SortKey.{SortKey}
use Rattle.relations.specs.Rels.{rel_of, table_rel, rel_table, whole as whole_rel}
use Rattle.relations.proofs.FromTable.{table_is_rel}
use Rattle.rel_ops.specs.Sort.{has_marked_key, ordered}
use Rattle.rel_ops.proofs.Orders.{rows_stay}
use Rattle.sheet_commands.specs.declared.sort_names.SortName.{SortName}
use Rattle.edit_results.specs.Results.{whole}
use Rattle.edit_results.proofs.Whole.{whole_of}
use Rattle.row_edits.specs.Sort.{sort_keys, put_in_order, rows_sorted}
use Rattle.row_edits.specs.Staying.{IsInOrder}
use Rattle.row_edits.proofs.SortLaws.{bare_again}
use Rattle.row_edits.proofs.Staying.{loose_stays}

-- a dataset as a relation is within the limits of one
rel_stays : (t : TableData) → IsTable t → whole_rel (table_rel None t) ≡ Ok (table_rel None t)
rel_stays t is = rw (table_is_rel None t is).limits refl

-- and as a dataset again it is what it was
table_again : (t : TableData) → IsTable t → rel_table (table_rel None t) ≡ Ok t
table_again t is = ap (λ cs. whole (table_of cs t.rows t.is_open t.is_loose)) (bare_again t.columns) ∙ whole_of t is

pub order_stays : (t : TableData) (keys : List SortKey) → IsTable t → IsInOrder t keys → put_in_order t keys ≡ Ok t
order_stays t keys is stays =
    let rows = rows_stay keys t.rows stays.0 in
    let loose = loose_stays t.is_loose (list_any (has_marked_key keys) t.rows) stays.1 in
    let same : ordered (table_rel None t) keys ≡ Ok (table_rel None t) = ap whole_rel (λ i. rel_of (table_rel None t).columns (rows i) t.is_open (loose i)) ∙ rel_stays t is in
    ap (λ a. and_then a rel_table) same ∙ table_again t is

pub sort_stays : (t : TableData) (by : List SortName) (keys : List SortKey) → IsTable t → sort_keys t.columns by ≡ Ok keys → IsInOrder t keys →
    rows_sorted t by ≡ Ok t
sort_stays t by keys is named stays = ap (λ a. and_then a (put_in_order t)) named ∙ order_stays t keys is stays
