use Rattle.std.proofs.Common.{◌≡◌, take}
use Rattle.std.specs.Option.{option_copied}
use Rattle.rel_group.specs.Calls.{lots_of}
use Rattle.rel_group.proofs.placing.few_lots.Given as goal

abbrev pub invariant-loop-i : goal.invariant-loop-i
invariant-loop-i l = l.all.items ≡ lots_of (option_copied l.keys) (take l.i l.rows)
