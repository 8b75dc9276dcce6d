use Rattle.std.proofs.Common.{◌≡◌, ◌+◌, ◌-◌, length}
use Rattle.std.specs.Prelude.{find}
use Rattle.csv_load.specs.Names.{is_free, candidates}
use Rattle.csv_load.proofs.FreeNames.{numbered_names}
use Rattle.csv_load.proofs.header.free_name.Given as goal

abbrev pub invariant-loop-k : goal.invariant-loop-k
invariant-loop-k l = find (is_free l.taken) (candidates l.name (length l.taken)) ≡ find (is_free l.taken) (numbered_names l.name l.k (length l.taken + 2 - l.k))
