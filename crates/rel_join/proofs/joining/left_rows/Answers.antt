use Rattle.std.proofs.lemmas.Result.{err_from_is_err_and}
use Rattle.rel_join.specs.Jobs.{job_row}
use Rattle.rel_join.proofs.FewRows.{few_stops_at, fails_before}
use Rattle.rel_join.proofs.joining.left_rows.Goals as goal

pub returns-in_err-made : goal.returns-in_err-made
returns-in_err-made c =
    let p = err_from_is_err_and c.from_residual-in_err-made.result c.from_residual-in_err-made.ensures.1 in
    rw (p.1, p.2) (few_stops_at (job_row c.args.job.now) _ c.loop-row.all _ c.loop-row.row-index c.row-item.result c.in_err-made.field-0.0
    c.loop-row.invariant c.loop-row-test.true c.row-item.is (fails_before _ _ c.in_err-made.ensures))
