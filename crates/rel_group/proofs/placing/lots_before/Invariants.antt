use Rattle.std.proofs.Common.{◌≡◌, ◌+◌, drop}
use Rattle.rel_group.specs.Calls.{lots_before}
use Rattle.rel_group.proofs.placing.lots_before.Given as goal

abbrev pub invariant-loop-i : goal.invariant-loop-i
invariant-loop-i l = lots_before l.key l.lots ≡ l.i + lots_before l.key (drop l.i l.lots)
