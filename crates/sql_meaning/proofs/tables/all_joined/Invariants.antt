use Rattle.std.proofs.Common.{◌≡◌, drop}
use Rattle.sql_plan.specs.Folds.{folded}
use Rattle.sql_meaning.specs.Steps.{joined_with}
use Rattle.sql_meaning.specs.Calls.{steps_of, tables_of, headings_at, AreJoinable}
use Rattle.sql_meaning.proofs.tables.all_joined.Given as goal

abbrev pub invariant-loop-part : goal.invariant-loop-part
invariant-loop-part l =
    (folded (joined_with (steps_of l.job) (tables_of l.job)) l.fn.first l.joins
    ≡ folded (joined_with (steps_of l.job) (tables_of l.job)) l.sofar (drop l.part-index l.joins))
    × AreJoinable (headings_at l.job) l.sofar.columns (drop l.part-index l.joins)
