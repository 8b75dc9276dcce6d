use Rattle.column_edits.proofs.PlanRules.{renaming_rules}
use Rattle.column_edits.proofs.commands.rename_column.Goals as goal

pub lay_out_shared-requires : goal.lay_out_shared-requires
lay_out_shared-requires c =
    renaming_rules c.args.table.now.columns (rw c.get-own.ensures at c.law_of_rules.ensures).names c.args.name.now c.args.to.now c.in_ok-layout.layout (rw (c.as_slice.ensures, c.columns.ensures, c.get-own.ensures) at c.in_ok-layout.ensures)
