use Rattle.std.proofs.Common.{◌≡◌, ◌+◌, ◌-◌, ◌^◌, min, length}
use Rattle.std.specs.List.{flat_map}
use Rattle.value_types.specs.Text.{escaped}
use Rattle.value_types.proofs.weight.quoted_weight.Given as goal

abbrev pub invariant-loop-c : goal.invariant-loop-c
invariant-loop-c l = l.total ≡ min (length (flat_map escaped l.yielded) + 2) (2 ^ 64 - 1)
