use Rattle.std.proofs.Common.{◌≡◌, ◌++◌}
use Rattle.std.specs.Vec.Iter.{into_iter_items}
use Rattle.expr_ops.specs.Aggregates.{not_null}
use Rattle.expr_ops.proofs.aggregates.not_null.Given as goal

abbrev pub invariant-loop-value : goal.invariant-loop-value
invariant-loop-value l =
    (goal.iterator-loop-value).can_next l.value-iterator ×
    (goal.iterator-loop-value).is_finite l.value-iterator ×
    (not_null l.fn.values ≡ l.kept ++ not_null (into_iter_items l.value-iterator))
