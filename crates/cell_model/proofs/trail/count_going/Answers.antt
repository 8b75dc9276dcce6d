use Rattle.std.proofs.Common.{◌∙◌, ◌+◌, sym, ap}
use Rattle.cell_model.specs.Runs.{StepData, goes_on}
use Rattle.cell_model.proofs.RunLemmas.{reached_at}
use Rattle.cell_model.proofs.trail.count_going.Goals as goal

pub loop-step-preserved : goal.loop-step-preserved
loop-step-preserved c =
    let i = c.loop-step.invariant in
    let p = c.args.policy in
    record {
      count = ap (λ n. n + 1) i.count;
      reached = reached_at p c.args.steps.now c.step-item.result c.loop-step.count c.loop-step.step-index i.count c.loop-step-test.true c.step-item.is
          (ap (λ (s : StepData). goes_on p s.result.status) (sym c.get.ensures) ∙ ap (λ r. goes_on p r.status) (sym c.outcome.ensures)
          ∙ ap (λ r. goes_on p r.status) (sym c.get-in-loop-step.ensures) ∙ sym c.goes_on.ensures ∙ c.if-not-goes_on.false) i.reached;
    }
