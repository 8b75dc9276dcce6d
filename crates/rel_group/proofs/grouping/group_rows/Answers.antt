use Rattle.std.proofs.Common.{subst, sym}
use Rattle.std.specs.Option.{option_copied}
use Rattle.cell_errors.specs.Answers.{Gives}
use Rattle.rel_group.proofs.ManyGroups.{few_kept, many_kept}
use Rattle.rel_group.proofs.grouping.group_rows.Goals as goal

pub returns-then-not-few_values : goal.returns-then-not-few_values
returns-then-not-few_values c =
    let items = c.args.items.now in
    let ts = c.in_ok-tested.tested in
    let many = rw (c.kept_count.ensures, c.as_slice-tested.ensures) at c.few_values.ensures in
    let checked = rw c.as_slice-tested.ensures at c.in_ok-check_rows.ensures in
    many_kept c.args.job items (option_copied c.args.having) c.args.lots ts c.in_ok-tested.ensures (rw many at c.if-not-few_values.true) checked

pub returns : goal.returns
returns c =
    let items = c.args.items.now in
    let ts = c.in_ok-tested.tested in
    let many = rw (c.kept_count.ensures, c.as_slice-tested.ensures) at c.few_values.ensures in
    subst (Gives c.all_rows.result) (sym (few_kept c.args.job items (option_copied c.args.having) c.args.lots ts c.in_ok-tested.ensures (rw many at c.if-not-few_values.false)))
    (rw c.as_slice-tested.ensures at c.all_rows.ensures)
