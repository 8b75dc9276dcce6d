use Rattle.std.proofs.Common.{◌≡◌, drop}
use Rattle.dataset_types.specs.Tables.{values_fit}
use Rattle.dataset_types.proofs.rules.values_fit.Given as goal

abbrev pub invariant-loop-i : goal.invariant-loop-i
invariant-loop-i l = values_fit (drop l.i l.columns) (drop l.i l.values) ≡ values_fit l.columns l.values
