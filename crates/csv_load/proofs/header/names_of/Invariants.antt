use Rattle.std.proofs.Common.{◌≡◌, ◌≤◌, ◌-◌, ◌++◌, length, drop}
use Rattle.csv.specs.Records.{fields_of}
use Rattle.csv_load.specs.Names.{names_of, names_after}
use Rattle.csv_load.proofs.header.names_of.Given as goal

abbrev pub invariant-loop-field : goal.invariant-loop-field
invariant-loop-field l = record {
  within : length l.names ≤ length (fields_of l.header);
  named : names_of (fields_of l.header) ≡ l.names ++ names_after l.names (drop (length l.names) (fields_of l.header));
}

abbrev pub decreases-loop-field : goal.decreases-loop-field
decreases-loop-field l = length (fields_of l.header) - length l.names
