use Rattle.std.proofs.Common.{◌≡◌, take}
use Rattle.column_edits.specs.Plans.{renamed}
use Rattle.column_edits.proofs.plans.renamed.Given as goal

abbrev pub invariant-loop-laid : goal.invariant-loop-laid
invariant-loop-laid l = l.all ≡ renamed l.name l.to (take l.laid-index l.layout)
