use Rattle.std.proofs.Common.{subst, ap, length, ◌∙◌}
use Rattle.std.specs.Option.{option_copied}
use Rattle.cell_errors.specs.Answers.{Gives, and_then}
use Rattle.rel_group.specs.Calls.{StandFor, if_few_values}
use Rattle.rel_group.proofs.Lots.{rows_are}
use Rattle.rel_group.proofs.grouping.rows_of.Goals as goal

pub returns : goal.returns
returns c =
    let stand = subst (λ rows. StandFor c.args.job.places.now rows c.in_ok-lots.lots) (c.as_slice.ensures ∙ c.rows.ensures) c.in_ok-lots.ensures in
    subst (Gives c.group_rows.result)
    (ap (λ a. and_then a (if_few_values (length c.args.items.now)))
    (rows_are c.args.job (option_copied c.args.having) c.args.items.now c.in_ok-lots.lots c.requires.job stand))
    c.group_rows.ensures
