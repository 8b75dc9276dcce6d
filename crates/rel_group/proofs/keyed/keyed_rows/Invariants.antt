use Rattle.std.proofs.Common.{◌≡◌, ◌++◌, drop}
use Rattle.std.specs.Option.{option_copied}
use Rattle.rel_group.specs.Calls.{all_keyed, keyed_from}
use Rattle.rel_group.proofs.keyed.keyed_rows.Given as goal

abbrev pub invariant-loop-i : goal.invariant-loop-i
invariant-loop-i l = all_keyed (option_copied l.keys) l.rows ≡ l.all ++ keyed_from (option_copied l.keys) l.i (drop l.i l.rows)
