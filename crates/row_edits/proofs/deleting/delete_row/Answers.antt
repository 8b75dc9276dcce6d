use Rattle.row_edits.proofs.DeleteLaws.{delete_rules}
use Rattle.row_edits.proofs.deleting.delete_row.Goals as goal

pub whole_table-requires : goal.whole_table-requires
whole_table-requires c =
    rw (c.in_ok-columns.ensures, c.columns.ensures, c.is_open.ensures, c.is_loose.ensures)
    (delete_rules c.args.table.now c.args.row.now c.in_ok-rows.rows c.law_of_rules.ensures (rw c.rows.ensures at c.in_ok-rows.ensures))
