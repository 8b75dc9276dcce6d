use Rattle.std.proofs.Common.{◌≡◌, length}
use Rattle.std.specs.Prelude.{fold}
use Rattle.csv_load.specs.Tallies.{with_record}
use Rattle.csv_load.specs.Reading.{IsReading, left_of}
use Rattle.csv_load.proofs.guess.count_all.Given as goal

abbrev pub invariant-loop-record : goal.invariant-loop-record
invariant-loop-record g l = record {
  reading : IsReading g.R.Read.remaining l.reader;
  counted : fold with_record l.initial.tallies (left_of g.R.Read.remaining l.initial.reader) ≡ fold with_record l.tallies (left_of g.R.Read.remaining l.reader);
}

abbrev pub decreases-loop-record : goal.decreases-loop-record
decreases-loop-record g l = length (left_of g.R.Read.remaining l.reader)
