use Rattle.std.proofs.Common.{◌≡◌, ◌++◌}
use Rattle.std.specs.Vec.Iter.{into_iter_items}
use Rattle.column_edits.specs.Formula.{emptied_at}
use Rattle.column_edits.proofs.filling.emptied_at.Given as goal

abbrev pub invariant-loop-laid : goal.invariant-loop-laid
invariant-loop-laid l =
    (goal.iterator-loop-laid).can_next l.laid-iterator ×
    (goal.iterator-loop-laid).is_finite l.laid-iterator ×
    (emptied_at l.name l.fn.layout ≡ l.all ++ emptied_at l.name (into_iter_items l.laid-iterator))
