use Rattle.std.proofs.Common.{◌≡◌, drop}
use Rattle.rel_join.specs.Few.{few_of}
use Rattle.rel_join.specs.Jobs.{job_pairs}
use Rattle.rel_join.proofs.FewRows.{few_from}
use Rattle.rel_join.proofs.PairLoop.{job_pair}
use Rattle.rel_join.proofs.pairs.equal_pairs.Given as goal

abbrev pub invariant-loop-right : goal.invariant-loop-right
invariant-loop-right l = few_of (job_pairs l.job l.left) ≡ few_from l.found (job_pair l.job l.left) (drop l.right-index l.right-items)
