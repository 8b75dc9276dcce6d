use Rattle.std.proofs.Common.{◌≡◌, take}
use Rattle.column_edits.specs.Layout.{columns_of}
use Rattle.column_edits.proofs.layout.columns_of.Given as goal

abbrev pub invariant-loop-laid : goal.invariant-loop-laid
invariant-loop-laid l = l.all ≡ columns_of (take l.laid-index l.layout)
