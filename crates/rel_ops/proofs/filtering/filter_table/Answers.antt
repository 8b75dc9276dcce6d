use Rattle.std.proofs.Common.{sym, subst}
use Rattle.cell_errors.specs.Answers.{Gives}
use Rattle.relations.specs.Rels.{table_rel}
use Rattle.relations.proofs.FromTable.{table_is_rel}
use Rattle.rel_ops.proofs.WhereRows.{where_rules, filtered_is}
use Rattle.rel_ops.proofs.filtering.filter_table.Goals as goal

pub new-requires : goal.new-requires
new-requires c =
    let q = c.args.qualifier.now in
    let t = c.args.table.now in
    rw (c.in_ok-columns.ensures, c.is_open.ensures, c.is_loose.ensures, c.as_slice.ensures, c.columns.ensures)
    (where_rules (table_rel q t) c.args.condition.now c.args.picks.now c.args.cell c.in_ok-kept.kept (table_is_rel q t c.law_of_rules.ensures)
    (rw (c.as_slice-2.ensures, c.in_ok-columns.ensures, c.as_slice.ensures, c.columns.ensures, c.as_slice-rows.ensures, c.rows.ensures) at c.in_ok-kept.ensures))

pub returns : goal.returns
returns c =
    let q = c.args.qualifier.now in
    let t = c.args.table.now in
    subst (Gives c.new.result)
    (sym (filtered_is (table_rel q t) c.args.condition.now c.args.picks.now c.args.cell c.in_ok-kept.kept
    (rw (c.as_slice-2.ensures, c.in_ok-columns.ensures, c.as_slice.ensures, c.columns.ensures, c.as_slice-rows.ensures, c.rows.ensures) at c.in_ok-kept.ensures)))
    (rw (c.in_ok-columns.ensures, c.is_open.ensures, c.is_loose.ensures, c.as_slice.ensures, c.columns.ensures) at c.new.ensures)
