use Rattle.std.proofs.lemmas.Result.{err_from_is_err_and}
use Rattle.relations.proofs.Collecting.{stops_at}
use Rattle.row_edits.specs.Sort.{sort_key}
use Rattle.row_edits.proofs.sorting.sort_keys.Goals as goal

pub returns-in_err-sort_key : goal.returns-in_err-sort_key
returns-in_err-sort_key c =
    let p = err_from_is_err_and c.from_residual-in_err-sort_key.result c.from_residual-in_err-sort_key.ensures.1 in
    rw (p.1, p.2) (stops_at (sort_key c.args.columns.now) _ c.loop-one.keys c.args.by.now c.loop-one.one-index c.one-item.result c.in_err-sort_key.field-0.0
    c.loop-one.invariant c.loop-one-test.true c.one-item.is c.in_err-sort_key.ensures)
