use Rattle.std.proofs.Common.{◌≡◌, ◌∙◌, List, length, ap, arith}
use Rattle.cell_model.specs.Runs.{StepData}
use Rattle.cell_model.proofs.RunLemmas.{length-run_of, reached_first, settled_run, some_cells}
use Rattle.cell_model.proofs.run.run_all.Goals as goal

pub returns-in_default : goal.returns-in_default
returns-in_default g c =
    let cells = c.args.cells.now in
    reached_first g.W.CellMeaning.meaning c.args.policy cells (some_cells cells c.is_empty.result c.is_empty.ensures c.if-is_empty.false)

pub settle-requires-clause-some : goal.settle-requires-clause-some
settle-requires-clause-some g c =
    let cells = c.args.cells.now in
    let same : length c.in-Done.trail ≡ length cells = ap (λ (l : List StepData). length l) c.in-Done.ensures ∙ length-run_of g.W.CellMeaning.meaning c.args.policy cells in
    omega (arith, same, some_cells cells c.is_empty.result c.is_empty.ensures c.if-is_empty.false)

pub settle-requires-clause-small : goal.settle-requires-clause-small
settle-requires-clause-small g c =
    let cells = c.args.cells.now in
    let same : length c.in-Done.trail ≡ length cells = ap (λ (l : List StepData). length l) c.in-Done.ensures ∙ length-run_of g.W.CellMeaning.meaning c.args.policy cells in
    omega (arith, same, c.requires)

pub returns-in-Done : goal.returns-in-Done
returns-in-Done g c = settled_run c.settle.result g.W.CellMeaning.meaning c.args.policy c.in-Done.trail c.args.cells.now c.in-Done.ensures c.settle.ensures
