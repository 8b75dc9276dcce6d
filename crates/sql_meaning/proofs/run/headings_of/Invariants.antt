use Rattle.std.proofs.Common.{◌≡◌, ◌++◌, drop}
use Rattle.sql_meaning.specs.Steps.{headings_of}
use Rattle.sql_meaning.specs.Inputs.{named_tables}
use Rattle.sql_meaning.specs.Calls.{steps_of, headings_at}
use Rattle.sql_meaning.proofs.run.headings_of.Given as goal

abbrev pub invariant-loop-input : goal.invariant-loop-input
invariant-loop-input l = headings_at l.job ≡ l.all ++ headings_of (steps_of l.job) (named_tables (drop l.input-index l.input-items))
