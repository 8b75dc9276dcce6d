use Rattle.std.proofs.Common.{◌≡◌, ◌≤◌, drop, length}
use Rattle.dataset_types.specs.Envs.{set_slots}
use Rattle.dataset_types.proofs.env.Env.set_all.Given as goal

abbrev pub invariant-loop-i : goal.invariant-loop-i
invariant-loop-i l = record {
  within : l.i ≤ length l.writes;
  done : l.after ≡ record l.self { slots = set_slots l.self.slots (drop l.i l.writes) };
}

abbrev pub decreases-loop-i : goal.decreases-loop-i
decreases-loop-i l = l.i
