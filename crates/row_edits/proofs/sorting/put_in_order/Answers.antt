use Rattle.row_edits.proofs.SortLaws.{sorted_names}
use Rattle.row_edits.proofs.sorting.put_in_order.Goals as goal

pub into_table-requires : goal.into_table-requires
into_table-requires c = record {
  names = sorted_names c.args.table.now c.args.keys.now _ c.law_of_rules.ensures (rw c.in_ok-rel.ensures at c.in_ok-sort.ensures);
}
