use Rattle.std.proofs.Common.{◌≡◌}
use Rattle.std.specs.Vec.Iter.{into_iter_items}
use Rattle.rel_group.specs.Calls.{cut}
use Rattle.rel_group.proofs.Cuts.{cut_more}
use Rattle.rel_group.proofs.cutting.cut.Given as goal

abbrev pub invariant-loop-row : goal.invariant-loop-row
invariant-loop-row l =
    (goal.iterator-loop-row).can_next l.row-iterator ×
    (goal.iterator-loop-row).is_finite l.row-iterator ×
    (cut l.fn.rows.items ≡ cut_more l.done l.last (into_iter_items l.row-iterator))
