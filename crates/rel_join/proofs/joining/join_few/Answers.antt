-- The rows of a join follow the rules.
use Rattle.std.proofs.Common.{◌≡◌, Ok, Some, arith}
use Rattle.std.proofs.lemmas.Grind.{common_steps}
use Rattle.relations.specs.Batches.{gathered}
use Rattle.rel_join.specs.Few.{few_of}
use Rattle.rel_join.specs.Jobs.{job_row}
use Rattle.rel_join.proofs.JoinRules.{join_rules}
use Rattle.rel_join.proofs.FewRows.{few_is}
use Rattle.rel_join.proofs.joining.join_few.Goals as goal

pub new-requires : goal.new-requires
new-requires c =
    let job = c.args.job.now in
    let a = job.left.now in
    let b = job.right.now in
    let few : few_of (gathered (job_row job) a.rows) ≡ Ok (Some c.in_ok-made.made) = grind (arith, common_steps) in
    let rows = few_is (gathered (job_row job) a.rows) c.in_ok-made.made few in
    rw (c.requires.columns, c.is_open.ensures, c.is_open-2.ensures, c.is_loose.ensures, c.is_loose-2.ensures)
    (join_rules job.kind a b job.on.now job.picks.now job.cell c.in_ok-made.made c.law_of_rules.ensures c.law_of_rules-2.ensures c.requires.apart rows)
