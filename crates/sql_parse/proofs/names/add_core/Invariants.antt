-- The joins that are left add the rest.
use Rattle.std.proofs.Common.{◌≡◌, map, drop}
use Rattle.sql_parse.specs.declared.tables.JoinPart.{JoinPart}
use Rattle.name_lists.specs.Nub.{all_added}
use Rattle.sql_parse.proofs.names.add_core.Given as goal

abbrev pub invariant-loop-join : goal.invariant-loop-join
invariant-loop-join l =
    all_added l.names (map (λ (j : JoinPart). j.table.dataset) (drop l.join-index l.join-items))
    ≡ all_added l.initial.names (map (λ (j : JoinPart). j.table.dataset) l.join-items)
