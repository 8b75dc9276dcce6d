use Rattle.std.proofs.Common.{◌≡◌, take, true}
use Rattle.dataset_types.specs.Envs.{blur_slots}
use Rattle.dataset_types.proofs.env.in_doubt.Given as goal

abbrev pub invariant-loop-e : goal.invariant-loop-e
invariant-loop-e l = l.all ≡ blur_slots true (take l.e-index l.slots)
