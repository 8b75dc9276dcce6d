use Rattle.std.proofs.Common.{◌≡◌, ◌++◌, drop}
use Rattle.rel_group.specs.Keys.{items_at}
use Rattle.rel_group.proofs.keys.items_at.Given as goal

abbrev pub invariant-loop-place : goal.invariant-loop-place
invariant-loop-place g l = items_at l.places l.items ≡ l.all ++ items_at (drop l.place-index l.places) l.items
