use Rattle.std.proofs.Common.{◌≡◌, take}
use Rattle.column_edits.specs.Layout.{laid}
use Rattle.column_edits.proofs.layout.laid_values.Given as goal

abbrev pub invariant-loop-laid : goal.invariant-loop-laid
invariant-loop-laid l = l.all ≡ laid l.new (take l.laid-index l.layout) l.values
