use Rattle.std.proofs.Common.{◌≡◌, map, take}
use Rattle.rel_group.proofs.keyed.all_values.Given as goal

abbrev pub invariant-loop-marked : goal.invariant-loop-marked
invariant-loop-marked l = l.all ≡ map (λ m. m.value) (take l.marked-index l.values)
