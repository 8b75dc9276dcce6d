use Rattle.std.proofs.Common.{◌≡◌, drop}
use Rattle.rel_ops.specs.Sort.{value_at_key, keys_cmp}
use Rattle.rel_ops.proofs.sorting.compare_rows.Given as goal

abbrev pub invariant-loop-key : goal.invariant-loop-key
invariant-loop-key l = keys_cmp value_at_key l.keys l.a l.b ≡ keys_cmp value_at_key (drop l.key-index l.keys) l.a l.b
