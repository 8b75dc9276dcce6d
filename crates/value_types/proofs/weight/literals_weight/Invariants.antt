use Rattle.std.proofs.Common.{◌≡◌, ◌+◌, ◌-◌, ◌^◌, ◌<◌, min, length, drop}
use Rattle.value_types.specs.Text.{with_commas}
use Rattle.value_types.proofs.IdTexts.{left_of}
use Rattle.value_types.proofs.weight.literals_weight.Given as goal

abbrev pub invariant-loop-value : goal.invariant-loop-value
invariant-loop-value l = record {
  fits : l.total < 2 ^ 64;
  whole :
      min (l.total + length (left_of l.first (drop l.value-index l.values))) (2 ^ 64 - 1)
      ≡ min (length (with_commas l.values)) (2 ^ 64 - 1);
}
