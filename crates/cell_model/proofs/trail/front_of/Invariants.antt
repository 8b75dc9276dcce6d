use Rattle.std.proofs.Common.{◌≡◌, take}
use Rattle.cell_model.proofs.trail.front_of.Given as goal

abbrev pub invariant-loop-step : goal.invariant-loop-step
invariant-loop-step l = l.front ≡ take l.step-index l.trail
