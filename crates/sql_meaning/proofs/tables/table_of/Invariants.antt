use Rattle.std.proofs.Common.{◌≡◌, drop}
use Rattle.sql_meaning.specs.Steps.{table_of}
use Rattle.sql_meaning.specs.Inputs.{named_tables}
use Rattle.sql_meaning.proofs.tables.table_of.Given as goal

abbrev pub invariant-loop-input : goal.invariant-loop-input
invariant-loop-input l = table_of (named_tables l.inputs) l.name ≡ table_of (named_tables (drop l.input-index l.inputs)) l.name
