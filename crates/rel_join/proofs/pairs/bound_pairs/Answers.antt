use Rattle.std.proofs.lemmas.Result.{err_from_is_err_and}
use Rattle.rel_join.proofs.PairLoop.{pairs_stop}
use Rattle.rel_join.proofs.pairs.bound_pairs.Goals as goal

pub returns-in_err-test : goal.returns-in_err-test
returns-in_err-test c =
    let p = err_from_is_err_and c.from_residual-in_err-test.result c.from_residual-in_err-test.ensures.1 in
    rw (p.1, p.2) (pairs_stop c.args.job.now c.args.left.now _ c.loop-right.found _ c.loop-right.right-index c.right-item.result c.in_err-test.field-0.0
    c.loop-right.invariant.1 c.loop-right-test.true c.right-item.is (rw c.loop-right.invariant.0 at c.in_err-test.ensures.value))
