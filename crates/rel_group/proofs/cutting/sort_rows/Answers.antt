use Rattle.std.proofs.Common.{rules}
use Rattle.std.proofs.lemmas.Fn.{always_returns_same}
use Rattle.rel_ops.proofs.Stable.{is_sorted}
use Rattle.rel_group.specs.Calls.{key_lt}
use Rattle.rel_group.proofs.Cuts.{keyed_rank}
use Rattle.rel_group.proofs.cutting.sort_rows.Goals as goal

pub returns : goal.returns
returns c =
    is_sorted key_lt keyed_rank c.args.rows.now.items c.sort_by.new.self.items
    (c.in_ok-sort_by.ensures.sorted key_lt keyed_rank (always_returns_same _ _ _ (λ a r f k. search rules)))
    (c.in_ok-sort_by.ensures.stable key_lt keyed_rank (always_returns_same _ _ _ (λ a r f k. search rules)))
