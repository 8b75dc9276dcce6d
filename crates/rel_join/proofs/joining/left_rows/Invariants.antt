use Rattle.std.proofs.Common.{◌≡◌, drop}
use Rattle.rel_join.specs.Jobs.{job_row, job_rows}
use Rattle.rel_join.proofs.FewRows.{few_from}
use Rattle.rel_join.proofs.joining.left_rows.Given as goal

abbrev pub invariant-loop-row : goal.invariant-loop-row
invariant-loop-row l = job_rows l.job ≡ few_from l.all (job_row l.job) (drop l.row-index l.row-items)
