use Rattle.std.proofs.Common.{◌≡◌, ◌++◌, drop}
use Rattle.dataset_types.specs.Envs.{set_slot}
use Rattle.dataset_types.proofs.env.with_slot.Given as goal

abbrev pub invariant-loop-i : goal.invariant-loop-i
invariant-loop-i l = l.all ++ set_slot (drop l.i l.slots) l.new ≡ set_slot l.slots l.new
