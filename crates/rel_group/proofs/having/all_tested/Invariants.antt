use Rattle.std.proofs.Common.{◌≡◌}
use Rattle.std.specs.Option.{option_copied}
use Rattle.std.specs.Vec.Iter.{into_iter_items}
use Rattle.cell_errors.specs.Answers.{collect}
use Rattle.relations.proofs.Collecting.{rest_of}
use Rattle.rel_group.specs.Calls.{tested_in}
use Rattle.rel_group.proofs.having.all_tested.Given as goal

abbrev pub invariant-loop-lot : goal.invariant-loop-lot
invariant-loop-lot l =
    (goal.iterator-loop-lot).can_next l.lot-iterator ×
    (goal.iterator-loop-lot).is_finite l.lot-iterator ×
    (collect (tested_in l.job (option_copied l.having)) l.fn.lots
    ≡ rest_of l.all (tested_in l.job (option_copied l.having)) (into_iter_items l.lot-iterator))
