use Rattle.row_edits.proofs.MoveLaws.{move_rules}
use Rattle.row_edits.proofs.Staying.{goes}
use Rattle.row_edits.proofs.moving.moved_table.Goals as goal

pub whole_table-requires : goal.whole_table-requires
whole_table-requires c =
    rw (c.in_ok-copy-2.ensures, c.in_ok-rows.ensures, c.in_ok-copy.ensures, c.rows.ensures, c.columns.ensures, c.is_open.ensures)
    (move_rules c.args.table.now c.args.row.now c.args.after.now _ _ c.law_of_rules.ensures (goes c.args.row.now c.args.after.now c.args.table.now.rows c.requires.there))
