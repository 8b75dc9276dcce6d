use Rattle.std.proofs.Common.{◌≡◌, ◌++◌, take, drop, map}
use Rattle.std.specs.Prelude.{slice_get}
use Rattle.std.specs.List.{enumerate_from}
use Rattle.csv.specs.Records.{fields_of}
use Rattle.csv_load.specs.Tallies.{with_field, with_record}
use Rattle.csv_load.proofs.guess.count_record.Given as goal

abbrev pub invariant-loop-j : goal.invariant-loop-j
invariant-loop-j l =
    with_record l.initial.tallies (fields_of l.fields)
    ≡ take l.j l.tallies ++ map (λ p. with_field p.1 (slice_get (fields_of l.fields) p.0)) (enumerate_from l.j (drop l.j l.tallies))
