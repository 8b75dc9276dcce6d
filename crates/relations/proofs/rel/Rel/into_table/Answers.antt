use Rattle.std.proofs.Common.{sym, subst}
use Rattle.dataset_types.specs.Tables.{Distinct, column_names}
use Rattle.relations.specs.Rels.{RelData, IsRel, bare_columns}
use Rattle.relations.proofs.rel.Rel.into_table.Goals as goal

pub new-requires-clause-names : goal.new-requires-clause-names
new-requires-clause-names c =
    rw c.in_ok-columns.ensures (subst (λ (r : RelData). Distinct (column_names (bare_columns r.columns))) (sym c.into_parts-columns.ensures.parts) c.requires.names)

pub new-requires-clause-ids : goal.new-requires-clause-ids
new-requires-clause-ids c = (subst IsRel (sym c.into_parts-columns.ensures.parts) c.into_parts-columns.ensures.rules).rules.ids

pub new-requires-clause-fitting : goal.new-requires-clause-fitting
new-requires-clause-fitting c =
    rw c.in_ok-columns.ensures (subst IsRel (sym c.into_parts-columns.ensures.parts) c.into_parts-columns.ensures.rules).rules.fitting

pub new-requires-clause-sure : goal.new-requires-clause-sure
new-requires-clause-sure c = (subst IsRel (sym c.into_parts-columns.ensures.parts) c.into_parts-columns.ensures.rules).rules.sure
