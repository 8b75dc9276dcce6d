use Rattle.std.proofs.Common.{◌≡◌, ◌++◌, map, true}
use Rattle.std.specs.Vec.Iter.{into_iter_items}
use Rattle.rel_ops.specs.Limit.{doubted}
use Rattle.rel_ops.proofs.limiting.unsure_rows.Given as goal

abbrev pub invariant-loop-row : goal.invariant-loop-row
invariant-loop-row l =
    (goal.iterator-loop-row).can_next l.row-iterator ×
    (goal.iterator-loop-row).is_finite l.row-iterator ×
    (map (doubted true) l.fn.rows ≡ l.all ++ map (doubted true) (into_iter_items l.row-iterator))
