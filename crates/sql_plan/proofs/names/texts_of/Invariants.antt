use Rattle.std.proofs.Common.{◌≡◌, take}
use Rattle.sql_plan.proofs.Sorting.{texts}
use Rattle.sql_plan.proofs.names.texts_of.Given as goal

abbrev pub invariant-loop-name : goal.invariant-loop-name
invariant-loop-name l = texts l.texts.items ≡ take l.name-index l.names
