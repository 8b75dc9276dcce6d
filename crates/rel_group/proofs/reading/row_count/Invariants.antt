use Rattle.std.proofs.Common.{◌≡◌, ◌≤◌, ◌+◌, drop, length}
use Rattle.rel_group.specs.Calls.{rows_by}
use Rattle.rel_group.proofs.reading.row_count.Given as goal

abbrev pub invariant-loop-at : goal.invariant-loop-at
invariant-loop-at l =
    (l.count ≤ l.at-index)
    × (length (rows_by l.rows l.of_group) ≡ l.count + length (rows_by l.rows (drop l.at-index l.of_group)))
