use Rattle.std.proofs.Common.{◌≡◌, drop}
use Rattle.relations.specs.Batches.{gathered}
use Rattle.rel_ops.specs.Project.{no_error}
use Rattle.rel_group.specs.Calls.{row_in}
use Rattle.rel_group.proofs.items.check_rows.Given as goal

abbrev pub invariant-loop-lot : goal.invariant-loop-lot
invariant-loop-lot l = no_error (gathered (row_in l.job l.items) l.lots) ≡ no_error (gathered (row_in l.job l.items) (drop l.lot-index l.lots))
