use Rattle.std.proofs.Common.{◌≡◌, ◌++◌, drop}
use Rattle.value_types.specs.Text.{with_commas}
use Rattle.value_types.proofs.IdTexts.{left_of}
use Rattle.value_types.proofs.text.push_literals.Given as goal

abbrev pub invariant-loop-value : goal.invariant-loop-value
invariant-loop-value l = l.out ++ left_of l.first (drop l.value-index l.values) ≡ l.initial.out ++ with_commas l.values
