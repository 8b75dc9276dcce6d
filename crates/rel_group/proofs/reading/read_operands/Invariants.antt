use Rattle.std.proofs.Common.{◌≡◌, drop}
use Rattle.rel_group.specs.Calls.{operands_at, rows_by}
use Rattle.rel_group.proofs.ReadLots.{read_on}
use Rattle.rel_group.proofs.reading.read_operands.Given as goal

abbrev pub invariant-loop-at : goal.invariant-loop-at
invariant-loop-at l = operands_at l.place (rows_by l.rows l.of_group) ≡ read_on l.place l.all (rows_by l.rows (drop l.at-index l.of_group))
