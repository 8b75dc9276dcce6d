use Rattle.std.proofs.Common.{◌≡◌, ◌++◌, take}
use Rattle.dataset_types.proofs.env.ended.Given as goal

abbrev pub invariant-loop-e : goal.invariant-loop-e
invariant-loop-e l = l.all ≡ l.initial.all ++ take l.e-index l.rest
