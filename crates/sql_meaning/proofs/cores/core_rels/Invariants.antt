use Rattle.std.proofs.Common.{◌≡◌, drop}
use Rattle.cell_errors.specs.Answers.{collect}
use Rattle.relations.proofs.Collecting.{rest_of}
use Rattle.sql_meaning.specs.Steps.{core_rel}
use Rattle.sql_meaning.specs.Calls.{steps_of, tables_of}
use Rattle.sql_meaning.proofs.cores.core_rels.Given as goal

abbrev pub invariant-loop-core : goal.invariant-loop-core
invariant-loop-core l =
    collect (core_rel (steps_of l.job) (tables_of l.job)) l.cores
    ≡ rest_of l.all (core_rel (steps_of l.job) (tables_of l.job)) (drop l.core-index l.cores)
