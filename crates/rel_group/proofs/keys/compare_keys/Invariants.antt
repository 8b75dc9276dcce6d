use Rattle.std.proofs.Common.{◌≡◌, drop}
use Rattle.rel_group.specs.Keys.{key_cmp}
use Rattle.rel_group.proofs.keys.compare_keys.Given as goal

abbrev pub invariant-loop-i : goal.invariant-loop-i
invariant-loop-i l = key_cmp l.a l.b ≡ key_cmp (drop l.i l.a) (drop l.i l.b)
