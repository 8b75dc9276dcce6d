use Rattle.std.proofs.Common.{sym, subst}
use Rattle.relations.specs.Rels.{IsRel, rel_of}
use Rattle.rel_ops.proofs.WhereRows.{where_rules}
use Rattle.rel_ops.proofs.filtering.filter.Goals as goal

pub new-requires : goal.new-requires
new-requires c =
    let parts = c.into_parts-columns.result in
    where_rules (rel_of parts.columns parts.rows parts.is_open parts.is_loose) c.args.condition.now c.args.picks.now c.args.cell c.in_ok-kept.kept
    (subst IsRel (sym c.into_parts-columns.ensures.parts) c.into_parts-columns.ensures.rules) (rw c.as_slice.ensures at c.in_ok-kept.ensures)
