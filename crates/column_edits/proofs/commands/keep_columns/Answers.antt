use Rattle.column_edits.proofs.PlanRules.{keeping_rules}
use Rattle.column_edits.proofs.commands.keep_columns.Goals as goal

pub lay_out_shared-requires : goal.lay_out_shared-requires
lay_out_shared-requires c =
    keeping_rules c.args.table.now.columns (rw c.get-own.ensures at c.law_of_rules.ensures).names c.args.names.now c.in_ok-layout.layout c.requires.distinct (rw (c.as_slice.ensures, c.as_slice-2.ensures, c.columns.ensures, c.get-own.ensures) at c.in_ok-layout.ensures)
