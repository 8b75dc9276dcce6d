use Rattle.std.proofs.Common.{◌≡◌, length}
use Rattle.std.specs.Prelude.{◌==◌}
use Rattle.csv_load.specs.Ends.{without_end}
use Rattle.csv_load.proofs.strip.without_end.Given as goal

abbrev pub invariant-loop-last : goal.invariant-loop-last
invariant-loop-last l = without_end (λ b. b == l.byte) l.rest ≡ without_end (λ b. b == l.byte) l.text

abbrev pub decreases-loop-last : goal.decreases-loop-last
decreases-loop-last l = length l.rest
