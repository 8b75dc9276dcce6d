use Rattle.std.proofs.Common.{◌≡◌, drop}
use Rattle.column_edits.specs.Plans.{find}
use Rattle.column_edits.proofs.plans.find.Given as goal

abbrev pub invariant-loop-laid : goal.invariant-loop-laid
invariant-loop-laid l = find l.name (drop l.laid-index l.layout) ≡ find l.name l.layout
