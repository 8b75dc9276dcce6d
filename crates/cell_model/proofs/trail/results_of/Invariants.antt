use Rattle.std.proofs.Common.{◌≡◌, take}
use Rattle.cell_model.specs.Trails.{results_of}
use Rattle.cell_model.proofs.trail.results_of.Given as goal

abbrev pub invariant-loop-step : goal.invariant-loop-step
invariant-loop-step l = l.results ≡ results_of (take l.step-index l.trail)
