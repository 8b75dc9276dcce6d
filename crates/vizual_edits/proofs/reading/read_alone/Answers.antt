use Rattle.std.proofs.lemmas.Result.{err_from_is_err_and}
use Rattle.vizual_edits.proofs.Fixing.{alone_ends}
use Rattle.vizual_edits.proofs.reading.read_alone.Goals as goal

pub returns-in_err-there-clause-works : goal.returns-in_err-there-clause-works
returns-in_err-there-clause-works g c =
    let p = err_from_is_err_and c.from_residual.result c.from_residual.ensures.1 in
    rw (p.1, p.2) (alone_ends c.args.name.now c.args.to.now _ _ c.in_err-there.field-0.0 c.in_err-there.ensures.works)
