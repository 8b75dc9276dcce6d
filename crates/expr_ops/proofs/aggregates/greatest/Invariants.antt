use Rattle.std.proofs.Common.{◌≡◌, drop}
use Rattle.expr_ops.specs.Aggregates.{greatest_from, greatest_of}
use Rattle.expr_ops.proofs.aggregates.greatest.Given as goal

abbrev pub invariant-loop-value : goal.invariant-loop-value
invariant-loop-value l = greatest_of l.values ≡ greatest_from l.best (drop l.value-index l.rest)
