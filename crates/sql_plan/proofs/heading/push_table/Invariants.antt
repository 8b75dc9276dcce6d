use Rattle.std.proofs.Common.{◌≡◌, drop}
use Rattle.sql_plan.specs.Headings.{table_columns}
use Rattle.sql_plan.proofs.heading.push_table.Given as goal

abbrev pub invariant-loop-heading : goal.invariant-loop-heading
invariant-loop-heading l =
    (l.all ≡ l.initial.all) × (table_columns l.headings l.table ≡ table_columns (drop l.heading-index l.headings) l.table)
