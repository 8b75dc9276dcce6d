use Rattle.std.proofs.Common.{◌+◌, ◌-◌, length}
use Rattle.outside_io.proofs.folder.read_up_to.Given as goal

abbrev pub decreases-loop-alloc : goal.decreases-loop-alloc
decreases-loop-alloc g l = l.most + 1 - length l.bytes
