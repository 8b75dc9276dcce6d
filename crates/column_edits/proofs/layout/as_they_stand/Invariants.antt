use Rattle.std.proofs.Common.{◌≡◌, ◌++◌, drop, map}
use Rattle.std.specs.List.{enumerate_from}
use Rattle.column_edits.specs.Layout.{standing}
use Rattle.column_edits.proofs.layout.as_they_stand.Given as goal

abbrev pub invariant-loop-place : goal.invariant-loop-place
invariant-loop-place l = map standing (enumerate_from 0 l.columns) ≡ l.all ++ map standing (enumerate_from l.place (drop l.place l.columns))
