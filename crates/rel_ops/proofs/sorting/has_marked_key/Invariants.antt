use Rattle.std.proofs.Common.{◌≡◌, drop}
use Rattle.std.specs.List.{list_any}
use Rattle.rel_ops.specs.Sort.{marked_at_key}
use Rattle.rel_ops.proofs.sorting.has_marked_key.Given as goal

abbrev pub invariant-loop-key : goal.invariant-loop-key
invariant-loop-key l = list_any (λ k. (marked_at_key k l.row).marked) l.keys ≡ list_any (λ k. (marked_at_key k l.row).marked) (drop l.key-index l.keys)
