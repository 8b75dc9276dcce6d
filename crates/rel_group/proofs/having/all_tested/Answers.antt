use Rattle.std.proofs.Common.{arith, ◌≡◌, [], ◌∙◌}
use Rattle.std.proofs.lemmas.Grind.{common_steps}
use Rattle.std.specs.Option.{option_copied}
use Rattle.std.specs.Vec.Iter.{into_iter_items}
use Rattle.std.proofs.lemmas.Result.{err_from_is_err_and}
use Rattle.relations.proofs.Collecting.{stops, ended}
use Rattle.rel_group.specs.Calls.{tested_in}
use Rattle.rel_group.proofs.having.all_tested.Goals as goal

pub returns-in_err-one : goal.returns-in_err-one
returns-in_err-one c =
    let p = err_from_is_err_and c.from_residual-in_err-one.result c.from_residual-in_err-one.ensures.1 in
    rw (p.1, p.2) (stops (tested_in c.args.job.now (option_copied c.args.having)) _ c.loop-lot.all (into_iter_items c.loop-lot.lot-iterator) (into_iter_items c.next.new.self) c.in-Some.lot c.in_err-one.field-0.0
    c.loop-lot.invariant.2 c.in-Some.ensures.steps.0 c.in_err-one.ensures)

pub returns : goal.returns
returns c =
    let e : into_iter_items c.loop-lot.lot-iterator ≡ [] = grind (arith, common_steps) in
    c.loop-lot.invariant.2 ∙ ended (tested_in c.args.job.now (option_copied c.args.having)) c.loop-lot.all (into_iter_items c.loop-lot.lot-iterator) e
