use Rattle.std.proofs.Common.{◌≡◌, ◌++◌, drop, map}
use Rattle.std.specs.Prelude.{unwrap_or}
use Rattle.std.specs.List.{enumerate_from}
use Rattle.csv_load.specs.Guess.{declared}
use Rattle.csv_load.specs.Tallies.{guess_of}
use Rattle.csv_load.proofs.guess.kinds_by.Given as goal

abbrev pub invariant-loop-place : goal.invariant-loop-place
invariant-loop-place l =
    map (λ p. unwrap_or (declared l.types p.0) (guess_of p.1)) (enumerate_from 0 l.tallies)
    ≡ l.kinds.items ++ map (λ p. unwrap_or (declared l.types p.0) (guess_of p.1)) (enumerate_from l.place (drop l.place l.tallies))
