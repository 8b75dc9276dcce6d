use Rattle.rel_ops.proofs.ProjectRules.{project_rules}
use Rattle.rel_ops.proofs.TooMany.{many_items}
use Rattle.rel_ops.proofs.projecting.with_columns.Goals as goal

pub returns-then-not-few_values : goal.returns-then-not-few_values
returns-then-not-few_values c =
    let rel = c.args.rel.now in
    let items = c.args.items.now in
    let many = rw (c.as_slice-rows.ensures, c.rows.ensures, c.len.ensures) at c.few_values.ensures in
    let checked = rw (c.as_slice-of.ensures, c.columns.ensures, c.as_slice-rows.ensures, c.rows.ensures, c.as_slice.ensures) at c.in_ok-check_rows.ensures in
    many_items rel items c.args.columns c.args.picks.now c.args.cell c.requires.columns
    (rw many at c.if-not-few_values.true) checked

pub new-requires : goal.new-requires
new-requires c =
    rw (c.is_open.ensures, c.is_loose.ensures)
    (project_rules c.args.rel.now c.args.items.now c.args.columns c.args.picks.now c.args.cell c.requires.columns c.in_ok-all.all c.args.rel.now.is_loose
    c.law_of_rules.ensures c.requires.names (rw (c.as_slice-of.ensures, c.columns.ensures, c.as_slice-rows.ensures, c.rows.ensures, c.as_slice-2.ensures) at c.in_ok-all.ensures))
