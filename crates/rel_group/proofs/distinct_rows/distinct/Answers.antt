use Rattle.rel_group.proofs.DistinctRules.{distinct_rules}
use Rattle.rel_group.proofs.Lots.{distinct_rows}
use Rattle.rel_group.proofs.distinct_rows.distinct.Goals as goal

pub new-requires : goal.new-requires
new-requires c =
    rw (c.in_ok-columns.ensures, c.columns.ensures, c.in_ok-rows.ensures, c.in_ok-lots.ensures, c.as_slice.ensures, c.rows.ensures, distinct_rows c.args.rel.now.rows, c.is_uncertain.ensures)
    (distinct_rules c.args.rel.now c.law_of_rules.ensures)
