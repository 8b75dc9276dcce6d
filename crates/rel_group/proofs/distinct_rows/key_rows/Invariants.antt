use Rattle.std.proofs.Common.{◌≡◌, ◌++◌, map}
use Rattle.std.specs.Vec.Iter.{into_iter_items}
use Rattle.rel_group.specs.Calls.{key_lot}
use Rattle.rel_group.proofs.distinct_rows.key_rows.Given as goal

abbrev pub invariant-loop-lot : goal.invariant-loop-lot
invariant-loop-lot l =
    (goal.iterator-loop-lot).can_next l.lot-iterator ×
    (goal.iterator-loop-lot).is_finite l.lot-iterator ×
    (map key_lot l.fn.lots ≡ l.all ++ map key_lot (into_iter_items l.lot-iterator))
