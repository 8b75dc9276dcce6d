use Rattle.std.proofs.Common.{◌≡◌, ◌-◌, ◌^◌, min, take}
use Rattle.value_types.specs.Numbers as spec
use Rattle.value_types.proofs.read.number.Given as goal

abbrev pub invariant-loop-digit : goal.invariant-loop-digit
invariant-loop-digit l = l.n ≡ min (spec.number (take l.digit-index l.digits)) (2 ^ 64 - 1)
