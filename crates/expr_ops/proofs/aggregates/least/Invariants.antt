use Rattle.std.proofs.Common.{◌≡◌, drop}
use Rattle.expr_ops.specs.Aggregates.{least_from, least_of}
use Rattle.expr_ops.proofs.aggregates.least.Given as goal

abbrev pub invariant-loop-value : goal.invariant-loop-value
invariant-loop-value l = least_of l.values ≡ least_from l.best (drop l.value-index l.rest)
