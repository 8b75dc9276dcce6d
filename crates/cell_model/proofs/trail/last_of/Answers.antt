use Rattle.std.proofs.Common.{◌∙◌, sym, ap}
use Rattle.cell_model.specs.Runs.{StepData, goes_on}
use Rattle.cell_model.proofs.RunLemmas.{env_at, going_at}
use Rattle.cell_model.proofs.trail.last_of.Goals as goal

pub returns-clause-env : goal.returns-clause-env
returns-clause-env c =
    env_at c.as_slice-steps.result.now c.args.trail.now c.index-steps-steps.result (sym c.is_empty.ensures ∙ c.if-is_empty.false) c.as_slice-steps.ensures c.index-steps-steps.is
    ∙ ap (λ (s : StepData). s.env) (sym c.get.ensures)

pub returns-clause-going : goal.returns-clause-going
returns-clause-going c = λ p.
    going_at p c.as_slice-steps.result.now c.args.trail.now c.index-steps-steps.result (sym c.is_empty.ensures ∙ c.if-is_empty.false) c.as_slice-steps.ensures c.index-steps-steps.is
    ∙ ap (λ (s : StepData). goes_on p s.result.status) (sym c.get.ensures)
