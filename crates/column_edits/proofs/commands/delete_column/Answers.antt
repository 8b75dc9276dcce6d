use Rattle.column_edits.proofs.PlanRules.{deletion_rules}
use Rattle.column_edits.proofs.commands.delete_column.Goals as goal

pub lay_out-requires : goal.lay_out-requires
lay_out-requires c =
    deletion_rules c.args.table.now.columns c.law_of_rules.ensures.names c.args.name.now c.in_ok-layout.layout (rw (c.as_slice.ensures, c.columns.ensures) at c.in_ok-layout.ensures)
