use Rattle.std.proofs.Common.{◌+◌, ◌<◌, List, length, subst, sym}
use Rattle.cell_model.specs.Runs.{StepData}
use Rattle.cell_model.specs.Answers.{IsReached}
use Rattle.cell_model.proofs.RunLemmas.{reached_before_last}
use Rattle.cell_model.proofs.run.last_reached.Goals as goal

pub returns : goal.returns
returns c =
    let count = c.count_going.result in
    let same = c.as_slice-steps.ensures in
    subst (IsReached c.args.policy (count + 1)) same
    (reached_before_last c.args.policy c.as_slice-steps.result.now count (subst (λ (l : List StepData). 0 < length l) (sym same) c.requires.some) c.count_going.ensures.within c.count_going.ensures.reached)
