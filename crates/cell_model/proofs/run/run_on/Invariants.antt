use Rattle.std.proofs.Common.{◌-◌, length}
use Rattle.cell_model.specs.Trails.{Follows}
use Rattle.cell_model.proofs.run.run_on.Given as goal

abbrev pub invariant-loop-alloc : goal.invariant-loop-alloc
invariant-loop-alloc g l = Follows g.W.CellMeaning.meaning l.policy l.trail l.cells

abbrev pub decreases-loop-alloc : goal.decreases-loop-alloc
decreases-loop-alloc g l = length l.cells - length l.trail
