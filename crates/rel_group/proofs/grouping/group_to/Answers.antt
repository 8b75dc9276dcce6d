use Rattle.std.proofs.Common.{subst, sym}
use Rattle.std.proofs.lemmas.Result.{err_from_is_err_and}
use Rattle.std.specs.Option.{option_copied}
use Rattle.cell_errors.specs.Answers.{Gives}
use Rattle.rel_group.proofs.GroupRules.{group_rules}
use Rattle.rel_group.proofs.ManyGroups.{rows_are_within, whole_stops, whole_goes}
use Rattle.rel_group.proofs.grouping.group_to.Goals as goal

pub returns-in_err-made : goal.returns-in_err-made
returns-in_err-made c =
    let p = err_from_is_err_and c.from_residual.result c.from_residual.ensures.1 in
    let stopped = rw c.as_slice.ensures at c.in_err-made.ensures in
    rw (p.1, p.2) (whole_stops c.args.job (option_copied c.args.having) c.args.items.now c.args.columns c.requires.columns c.in_err-made.field-0.0 stopped)

pub new-requires : goal.new-requires
new-requires c =
    let job = c.args.job in
    let items = c.args.items.now in
    let having = option_copied c.args.having in
    let made = rows_are_within job having items c.args.columns c.requires.columns c.in_ok-made.made (rw c.as_slice.ensures at c.in_ok-made.ensures) in
    rw c.may_lack_groups.ensures
    (group_rules job.rel.now job.places.now having items job.picks.now job.cell c.args.columns c.in_ok-made.made
    c.law_of_rules.ensures c.requires.names c.requires.columns made)

pub returns : goal.returns
returns c =
    let made = rw c.as_slice.ensures at c.in_ok-made.ensures in
    subst (Gives c.new.result)
    (sym (whole_goes c.args.job (option_copied c.args.having) c.args.items.now c.args.columns c.requires.columns c.in_ok-made.made made))
    (rw c.may_lack_groups.ensures at c.new.ensures)
