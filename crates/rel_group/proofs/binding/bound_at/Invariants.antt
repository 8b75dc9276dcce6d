use Rattle.std.proofs.Common.{◌≡◌, ◌++◌, drop}
use Rattle.rel_group.specs.Groups.{bound_rows}
use Rattle.rel_group.specs.Calls.{rows_by}
use Rattle.rel_group.proofs.binding.bound_at.Given as goal

abbrev pub invariant-loop-place : goal.invariant-loop-place
invariant-loop-place l = bound_rows l.columns (rows_by l.rows l.places) ≡ l.all ++ bound_rows l.columns (rows_by l.rows (drop l.place-index l.places))
