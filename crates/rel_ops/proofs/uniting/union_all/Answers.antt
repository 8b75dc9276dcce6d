use Rattle.std.proofs.Common.{sym, subst, ap, ◌∙◌}
use Rattle.relations.specs.Rels.{RelData, IsRel, rel_of}
use Rattle.rel_ops.specs.Union.{column_types}
use Rattle.rel_ops.proofs.UnionLaws.{union_rules}
use Rattle.rel_ops.proofs.uniting.union_all.Goals as goal

pub new-requires : goal.new-requires
new-requires c =
    let left = c.into_parts-left.result in
    let right = c.into_parts-right.result in
    let types = ap (λ (r : RelData). column_types r.columns) c.into_parts-left.ensures.parts ∙ (c.requires.types ∙ sym (ap (λ (r : RelData). column_types r.columns) c.into_parts-right.ensures.parts)) in
    rw c.in_ok-rows.ensures (union_rules (rel_of left.columns left.rows left.is_open left.is_loose) (rel_of right.columns right.rows right.is_open right.is_loose)
    (subst IsRel (sym c.into_parts-left.ensures.parts) c.into_parts-left.ensures.rules) (subst IsRel (sym c.into_parts-right.ensures.parts) c.into_parts-right.ensures.rules) types)
