use Rattle.std.proofs.Common.{◌≡◌, ◌++◌, drop}
use Rattle.relations.specs.Places.{placed_from}
use Rattle.relations.proofs.places.placed.Given as goal

abbrev pub invariant-loop-place : goal.invariant-loop-place
invariant-loop-place l = placed_from 0 l.columns ≡ l.all ++ placed_from l.place (drop l.place l.columns)
