use Rattle.std.proofs.Common.{◌∙◌, List, ap, subst, length, get_or, arith}
use Rattle.cell_model.specs.Runs.{Reaches, StepData}
use Rattle.cell_model.proofs.RunLemmas.{Follows-more, reached_in}
use Rattle.cell_model.proofs.run.run_on.Goals as goal

pub loop-alloc-preserved : goal.loop-alloc-preserved
loop-alloc-preserved g c =
    let cells = c.args.cells.now in
    let cell = c.index-cells-len.result in
    Follows-more g.W.CellMeaning.meaning c.args.policy c.loop-alloc.trail c.add_step.new.trail cells cell
    (omega arith) (c.index-cells-len.is ∙ ap (λ i. get_or cells i cell) c.len-in-loop-alloc.ensures) c.in-Ok.ensures.ok c.loop-alloc.invariant

pub returns-in_default : goal.returns-in_default
returns-in_default g c =
    let steps = c.loop-alloc.trail in
    let same = c.as_slice.ensures ∙ c.in_default.ensures.err in
    reached_in g.W.CellMeaning.meaning c.args.policy steps c.args.cells.now c.count_going.result (omega arith) c.loop-alloc.invariant
    (omega (arith, ap (λ (l : List StepData). length l) same, c.count_going.ensures.within)) (subst (Reaches c.args.policy c.count_going.result) same c.count_going.ensures.reached)
