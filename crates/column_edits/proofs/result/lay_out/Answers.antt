use Rattle.column_edits.proofs.TableRules.{laid_out_rules}
use Rattle.column_edits.proofs.result.lay_out.Goals as goal

pub whole_table-requires : goal.whole_table-requires
whole_table-requires c =
    rw (c.in_ok-columns.ensures, c.in_ok-rows.ensures, c.as_slice.ensures, c.as_slice-2.ensures, c.as_slice-3.ensures, c.rows.ensures, c.is_open.ensures, c.is_loose.ensures)
    (laid_out_rules c.args.layout.now c.args.table.now c.law_of_rules.ensures c.requires)
