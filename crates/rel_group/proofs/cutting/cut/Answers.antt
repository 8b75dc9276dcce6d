use Rattle.std.proofs.Common.{arith, ◌≡◌, [], ◌∙◌, sym}
use Rattle.std.proofs.lemmas.Grind.{common_steps}
use Rattle.std.specs.Vec.Iter.{into_iter_items}
use Rattle.rel_group.proofs.Cuts.{cut_closed}
use Rattle.rel_group.proofs.cutting.cut.Goals as goal

pub returns : goal.returns
returns c =
    let e : into_iter_items c.loop-row.row-iterator ≡ [] = grind (arith, common_steps) in
    rw (sym (c.loop-row.invariant.2 ∙ cut_closed c.loop-row.done c.loop-row.last (into_iter_items c.loop-row.row-iterator) e)) at c.finish.ensures
