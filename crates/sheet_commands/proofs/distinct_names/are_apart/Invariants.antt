use Rattle.std.proofs.Common.{◌≡◌, drop}
use Rattle.sheet_commands.specs.Apart.{are_apart}
use Rattle.sheet_commands.proofs.distinct_names.are_apart.Given as goal

abbrev pub invariant-loop-i : goal.invariant-loop-i
invariant-loop-i l = are_apart (drop l.i l.names) ≡ are_apart l.names
