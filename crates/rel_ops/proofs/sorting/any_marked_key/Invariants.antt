use Rattle.std.proofs.Common.{◌≡◌, drop}
use Rattle.std.specs.List.{list_any}
use Rattle.rel_ops.specs.Sort.{has_marked_key}
use Rattle.rel_ops.proofs.sorting.any_marked_key.Given as goal

abbrev pub invariant-loop-row : goal.invariant-loop-row
invariant-loop-row l = list_any (has_marked_key l.keys) l.rows ≡ list_any (has_marked_key l.keys) (drop l.row-index l.rows)
