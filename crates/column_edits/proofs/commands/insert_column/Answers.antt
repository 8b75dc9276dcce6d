use Rattle.column_edits.proofs.PlanRules.{insertion_rules}
use Rattle.column_edits.proofs.commands.insert_column.Goals as goal

pub lay_out-requires : goal.lay_out-requires
lay_out-requires c =
    insertion_rules c.args.table.now.columns c.law_of_rules.ensures.names c.args.name.now c.args.kind c.args.at c.in_ok-layout.layout (rw (c.as_slice.ensures, c.columns.ensures) at c.in_ok-layout.ensures)
