use Rattle.std.proofs.Common.{◌≡◌, drop}
use Rattle.relations.proofs.Collecting.{rest_of}
use Rattle.sql_plan.specs.Cores.{core_checked}
use Rattle.sql_plan.specs.Plan.{cores_checked}
use Rattle.sql_plan.proofs.plan.cores_checked.Given as goal

abbrev pub invariant-loop-core : goal.invariant-loop-core
invariant-loop-core l = cores_checked l.headings l.cores ≡ rest_of l.all (core_checked l.headings) (drop l.core-index l.cores)
