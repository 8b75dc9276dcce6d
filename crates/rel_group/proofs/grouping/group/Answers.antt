use Rattle.std.proofs.Common.{sym, ap, subst}
use Rattle.std.specs.Option.{option_copied}
use Rattle.cell_errors.specs.Answers.{Gives, and_then}
use Rattle.rel_group.specs.Group.{grouped_to}
use Rattle.rel_group.proofs.grouping.group.Goals as goal

pub returns : goal.returns
returns c =
    let columns = rw (c.in_ok-of_key.ensures, c.columns.ensures, c.columns-2.ensures, c.as_slice-places.ensures, c.as_slice.ensures) at c.in_ok-columns.ensures in
    subst (Gives c.group_to.result) (sym (ap (λ a. and_then a (λ cs. grouped_to cs c.args.rel.now c.args.keys.now (option_copied c.args.having) c.args.items.now c.args.picks.now c.args.cell)) columns))
    (rw c.as_slice-places.ensures at c.group_to.ensures)
