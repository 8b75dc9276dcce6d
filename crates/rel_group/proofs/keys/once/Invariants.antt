use Rattle.std.proofs.Common.{◌≡◌, ◌++◌, drop}
use Rattle.rel_group.specs.Keys.{once, once_after}
use Rattle.rel_group.proofs.keys.once.Given as goal

abbrev pub invariant-loop-i : goal.invariant-loop-i
invariant-loop-i g l = once l.places l.items ≡ l.all ++ once_after l.seen.items (drop l.i l.places) (drop l.i l.items)
