use Rattle.std.proofs.Common.{◌≡◌, take}
use Rattle.column_edits.specs.Plans.{others}
use Rattle.column_edits.proofs.plans.others.Given as goal

abbrev pub invariant-loop-laid : goal.invariant-loop-laid
invariant-loop-laid l = l.all ≡ others l.name (take l.laid-index l.layout)
