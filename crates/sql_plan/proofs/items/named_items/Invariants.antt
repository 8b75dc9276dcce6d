use Rattle.std.proofs.Common.{◌≡◌, ◌+◌, ◌++◌, drop}
use Rattle.sql_plan.specs.Items.{named_from}
use Rattle.sql_plan.proofs.items.named_items.Given as goal

abbrev pub invariant-loop-i : goal.invariant-loop-i
invariant-loop-i l = named_from 1 l.items ≡ l.all ++ named_from (l.i + 1) (drop l.i l.items)
