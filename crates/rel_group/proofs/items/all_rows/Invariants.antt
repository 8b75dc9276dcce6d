use Rattle.std.proofs.Common.{◌≡◌, drop}
use Rattle.relations.specs.Batches.{gathered}
use Rattle.relations.proofs.Loops.{resumed}
use Rattle.rel_group.specs.Calls.{row_in}
use Rattle.rel_group.proofs.items.all_rows.Given as goal

abbrev pub invariant-loop-lot : goal.invariant-loop-lot
invariant-loop-lot l = gathered (row_in l.job l.items) l.lots ≡ resumed l.all (row_in l.job l.items) (drop l.lot-index l.lots)
