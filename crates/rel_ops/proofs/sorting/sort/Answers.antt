use Rattle.std.proofs.Common.{sym, subst}
use Rattle.relations.specs.Rels.{IsRel, rel_of}
use Rattle.rel_ops.proofs.SortLaws.{sort_rules}
use Rattle.rel_ops.proofs.sorting.sort.Goals as goal

pub new-requires : goal.new-requires
new-requires c =
    let parts = c.into_parts-columns.result in
    rw (c.in_ok-rows.ensures, c.as_slice-3.ensures) (sort_rules (rel_of parts.columns parts.rows parts.is_open parts.is_loose) c.args.keys.now _ (subst IsRel (sym c.into_parts-columns.ensures.parts) c.into_parts-columns.ensures.rules))
