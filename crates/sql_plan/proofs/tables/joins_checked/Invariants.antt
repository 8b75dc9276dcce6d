use Rattle.std.proofs.Common.{◌≡◌, drop}
use Rattle.sql_plan.specs.Folds.{folded}
use Rattle.sql_plan.specs.Cores.{join_checked}
use Rattle.sql_plan.proofs.tables.joins_checked.Given as goal

abbrev pub invariant-loop-join : goal.invariant-loop-join
invariant-loop-join l = folded (join_checked l.headings) l.fn.first l.joins ≡ folded (join_checked l.headings) l.columns (drop l.join-index l.joins)
