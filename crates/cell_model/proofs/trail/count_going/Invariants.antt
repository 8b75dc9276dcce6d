use Rattle.std.proofs.Common.{◌≡◌}
use Rattle.cell_model.specs.Runs.{Reaches}
use Rattle.cell_model.proofs.trail.count_going.Given as goal

abbrev pub invariant-loop-step : goal.invariant-loop-step
invariant-loop-step l = record {
  count : l.count ≡ l.step-index;
  reached : Reaches l.policy l.count l.steps;
}
