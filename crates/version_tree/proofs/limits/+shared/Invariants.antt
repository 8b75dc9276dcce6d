use Rattle.std.proofs.Common.{length}
use Rattle.version_tree.proofs.limits.+shared.Given as goal

abbrev pub decreases-shared : goal.decreases-shared
decreases-shared l = length l.cells.now
