use Rattle.std.proofs.Common.{◌≡◌, ◌++◌, map, drop}
use Rattle.rel_group.specs.Keys.{items_at}
use Rattle.rel_group.proofs.keyed.values_at.Given as goal

abbrev pub invariant-loop-place : goal.invariant-loop-place
invariant-loop-place l = map (λ m. m.value) (items_at l.places l.values) ≡ l.all ++ map (λ m. m.value) (items_at (drop l.place-index l.places) l.values)
