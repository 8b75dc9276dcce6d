use Rattle.std.proofs.Common.{◌≡◌, ◌++◌, map, drop}
use Rattle.sql_parse.specs.declared.tables.JoinPart.{JoinPart}
use Rattle.sql_plan.proofs.tables.qualifiers.Given as goal

abbrev pub invariant-loop-join : goal.invariant-loop-join
invariant-loop-join l = l.initial.all ++ map (λ (j : JoinPart). j.table.qualifier) l.join-items ≡ l.all ++ map (λ (j : JoinPart). j.table.qualifier) (drop l.join-index l.join-items)
