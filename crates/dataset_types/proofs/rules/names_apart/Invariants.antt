use Rattle.std.proofs.Common.{◌≡◌, drop}
use Rattle.dataset_types.specs.Tables.{names_apart}
use Rattle.dataset_types.proofs.rules.names_apart.Given as goal

abbrev pub invariant-loop-i : goal.invariant-loop-i
invariant-loop-i l = names_apart (drop l.i l.columns) ≡ names_apart l.columns
