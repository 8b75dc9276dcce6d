use Rattle.std.proofs.Common.{◌≡◌, ◌*◌, ◌≤◌, ◌+ℤ◌, drop}
use Rattle.std.specs.Prelude.{unsigned_abs}
use Rattle.expr_ops.specs.Aggregates.{total}
use Rattle.expr_ops.proofs.aggregates.total.Given as goal

abbrev pub invariant-loop-value : goal.invariant-loop-value
invariant-loop-value l =
    (total l.values ≡ (l.sum +ℤ total (drop l.value-index l.values)))
    × (unsigned_abs l.sum ≤ l.value-index * 9223372036854775808)
