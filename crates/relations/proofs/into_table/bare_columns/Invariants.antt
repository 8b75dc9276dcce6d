use Rattle.std.proofs.Common.{◌≡◌, ◌++◌}
use Rattle.std.specs.Vec.Iter.{into_iter_items}
use Rattle.relations.specs.Rels.{bare_columns}
use Rattle.relations.proofs.into_table.bare_columns.Given as goal

abbrev pub invariant-loop-one : goal.invariant-loop-one
invariant-loop-one l =
    (goal.iterator-loop-one).can_next l.one-iterator ×
    (goal.iterator-loop-one).is_finite l.one-iterator ×
    (bare_columns l.fn.columns ≡ l.all ++ bare_columns (into_iter_items l.one-iterator))
