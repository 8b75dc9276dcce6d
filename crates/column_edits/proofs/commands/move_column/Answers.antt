use Rattle.column_edits.proofs.PlanRules.{moving_rules}
use Rattle.column_edits.proofs.commands.move_column.Goals as goal

pub lay_out_shared-requires : goal.lay_out_shared-requires
lay_out_shared-requires c =
    moving_rules c.args.table.now.columns (rw c.get-own.ensures at c.law_of_rules.ensures).names c.args.name.now c.args.at c.in_ok-layout.layout (rw (c.as_slice.ensures, c.columns.ensures, c.get-own.ensures) at c.in_ok-layout.ensures)
