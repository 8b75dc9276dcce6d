use Rattle.std.proofs.Common.{not, rules}
use Rattle.std.proofs.lemmas.Fn.{always_returns_same}
use Rattle.rel_ops.specs.Sort.{value_at_key, keys_lt}
use Rattle.rel_ops.proofs.Orders.{answered}
use Rattle.rel_ops.proofs.sorting.is_sorted.Goals as goal

pub returns : goal.returns
returns c =
    let lt = keys_lt value_at_key c.args.keys.now in
    answered lt c.args.rows.now c.is_sorted_by.result
    (c.is_sorted_by.ensures.cases (λ above below. not (lt below above)) (always_returns_same _ _ _ (λ a r f k. search rules)))
