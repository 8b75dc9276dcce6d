use Rattle.std.proofs.Common.{◌≡◌, take}
use Rattle.cell_model.specs.Trails.{cells_of}
use Rattle.cell_model.proofs.trail.cells_of.Given as goal

abbrev pub invariant-loop-step : goal.invariant-loop-step
invariant-loop-step l = l.cells ≡ cells_of (take l.step-index l.trail)
