use Rattle.std.proofs.Common.{ℕ, ◌+◌, ◌<◌}
use Rattle.sql_plan.proofs.Sorting.{DifferAt}
use Rattle.sql_plan.proofs.names.neighbours_differ.Given as goal

abbrev pub invariant-loop-later : goal.invariant-loop-later
invariant-loop-later l = (k : ℕ) → k + 1 < l.later → DifferAt l.texts k (k + 1)
