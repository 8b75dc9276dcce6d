use Rattle.std.proofs.Common.{◌≡◌, length}
use Rattle.std.specs.Prelude.{◌==◌}
use Rattle.csv_load.specs.Ends.{without_front}
use Rattle.csv_load.proofs.strip.without_front.Given as goal

abbrev pub invariant-loop-first : goal.invariant-loop-first
invariant-loop-first l = without_front (λ b. b == l.byte) l.rest ≡ without_front (λ b. b == l.byte) l.text

abbrev pub decreases-loop-first : goal.decreases-loop-first
decreases-loop-first l = length l.rest
