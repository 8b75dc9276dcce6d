use Rattle.row_edits.proofs.InsertLaws.{insert_rules}
use Rattle.row_edits.proofs.inserting.insert_row.Goals as goal

pub whole_table-requires : goal.whole_table-requires
whole_table-requires c =
    rw (c.in_ok-copy.ensures, c.columns-2.ensures, c.is_open.ensures)
    (insert_rules c.args.table.now c.args.row.now c.args.after.now c.in_ok-rows.rows _ c.law_of_rules.ensures (rw (c.in_ok-new.ensures, c.as_slice.ensures, c.columns.ensures, c.rows.ensures) at c.in_ok-rows.ensures))
