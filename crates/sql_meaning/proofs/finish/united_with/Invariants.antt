use Rattle.std.proofs.Common.{◌≡◌}
use Rattle.std.specs.Vec.Iter.{into_iter_items}
use Rattle.rel_ops.specs.Union.{united}
use Rattle.sql_plan.specs.Folds.{folded}
use Rattle.sql_meaning.specs.Calls.{AllAgree}
use Rattle.sql_meaning.proofs.finish.united_with.Given as goal

abbrev pub invariant-loop-side : goal.invariant-loop-side
invariant-loop-side l =
    (goal.iterator-loop-side).can_next l.side-iterator ×
    (goal.iterator-loop-side).is_finite l.side-iterator ×
    (folded united l.fn.first l.fn.others.items ≡ folded united l.sofar (into_iter_items l.side-iterator)) ×
    AllAgree l.sofar.columns (into_iter_items l.side-iterator)
