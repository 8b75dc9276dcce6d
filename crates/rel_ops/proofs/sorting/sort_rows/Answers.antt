use Rattle.std.proofs.Common.{rules}
use Rattle.std.proofs.lemmas.Fn.{always_returns_same}
use Rattle.rel_ops.specs.Sort.{value_at_key, keys_lt}
use Rattle.rel_ops.proofs.Ranks.{keys_rank}
use Rattle.rel_ops.proofs.Stable.{is_sorted}
use Rattle.rel_ops.proofs.sorting.sort_rows.Goals as goal

pub returns : goal.returns
returns c =
    let lt = keys_lt value_at_key c.args.keys.now in
    let rank = keys_rank value_at_key c.args.keys.now in
    is_sorted lt rank c.args.rows.now.items c.sort_by.new.self.items
    (c.in_ok-sort_by.ensures.sorted lt rank (always_returns_same _ _ _ (λ a r f k. search rules)))
    (c.in_ok-sort_by.ensures.stable lt rank (always_returns_same _ _ _ (λ a r f k. search rules)))
