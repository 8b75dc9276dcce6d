use Rattle.relations.proofs.FromTable.{table_is_rel}
use Rattle.relations.proofs.rel.Rel.of_table.Goals as goal

pub invariant_of-result : goal.invariant_of-result
invariant_of-result c =
    rw (c.in_ok-columns.ensures, c.in_ok-rows.ensures, c.as_slice.ensures, c.columns.ensures, c.rows.ensures, c.is_open.ensures, c.is_loose.ensures)
    (table_is_rel c.args.qualifier.now c.args.table.now c.law_of_rules.ensures)
