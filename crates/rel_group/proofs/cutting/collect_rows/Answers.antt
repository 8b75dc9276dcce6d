use Rattle.rel_group.proofs.Cuts.{cut_sorted}
use Rattle.rel_group.proofs.cutting.collect_rows.Goals as goal

pub returns : goal.returns
returns c = rw (c.in_ok-sort_rows.ensures, c.into_vec-rows.ensures, cut_sorted c.args.rows) at c.cut.ensures
