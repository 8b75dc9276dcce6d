use Rattle.std.proofs.Common.{arith, ◌≡◌, [], ◌∙◌}
use Rattle.std.proofs.lemmas.Grind.{common_steps}
use Rattle.std.specs.Vec.Iter.{into_iter_items}
use Rattle.std.proofs.lemmas.Result.{err_from_is_err_and}
use Rattle.relations.proofs.Loops.{ended}
use Rattle.rel_ops.specs.Filter.{where_row}
use Rattle.rel_ops.proofs.WhereRows.{kept_stops}
use Rattle.rel_ops.proofs.filtering.kept_rows.Goals as goal

pub returns-in_err-test : goal.returns-in_err-test
returns-in_err-test c =
    let p = err_from_is_err_and c.from_residual-in_err-test.result c.from_residual-in_err-test.ensures.1 in
    rw (p.1, p.2) (kept_stops c.args.columns.now c.args.condition.now c.args.picks.now c.args.cell _ c.loop-row.all (into_iter_items c.loop-row.row-iterator) (into_iter_items c.next.new.self) c.in-Some.row c.in_err-test.field-0.0
    c.loop-row.invariant.3 c.in-Some.ensures.steps.0 c.in_err-test.ensures.value)

pub returns : goal.returns
returns c =
    let e : into_iter_items c.loop-row.row-iterator ≡ [] = grind (arith, common_steps) in
    c.loop-row.invariant.3 ∙ ended (where_row c.args.columns.now c.args.condition.now c.args.picks.now c.args.cell) c.loop-row.all (into_iter_items c.loop-row.row-iterator) e
