use Rattle.std.proofs.Common.{◌∙◌, ◌||◌, ◌<◌, ap, length}
use Rattle.std.proofs.lemmas.Result.{err_from_is_err_and}
use Rattle.relations.specs.Places.{ReadsPlace}
use Rattle.rel_ops.specs.Project.{marked_value}
use Rattle.rel_group.proofs.ReadLots.{over_reads, over_fails}
use Rattle.rel_group.proofs.reading.over_column.Goals as goal

pub returns-in_err-aggregated-in-Some : goal.returns-in_err-aggregated-in-Some
returns-in_err-aggregated-in-Some c =
    let job = c.args.job.now in
    let reads : ReadsPlace job.rel.now.columns c.in-Some.place c.args.of.now = rw c.requires.places at c.in-Some.ensures.reads in
    let within : c.in-Some.place < length job.rel.now.columns = rw c.requires.places at c.in-Some.ensures.within in
    let are = rw (c.as_slice-rows.ensures, c.rows.ensures, c.as_slice.ensures) at c.in_ok-all-in-Some.ensures in
    let p = err_from_is_err_and c.from_residual-in_err-aggregated-in-Some.result c.from_residual-in_err-aggregated-in-Some.ensures.1 in
    rw (p.1, p.2) (over_fails job c.args.op c.in_ok-all-in-Some.all c.in_err-aggregated-in-Some.field-0.0 _
    (over_reads job c.args.lot.now c.args.op c.args.of.now c.in-Some.place reads within c.law_of_rules.ensures c.in_ok-all-in-Some.all are) c.in_err-aggregated-in-Some.ensures)

pub returns-in_ok-aggregated-in-Some : goal.returns-in_ok-aggregated-in-Some
returns-in_ok-aggregated-in-Some c =
    let job = c.args.job.now in
    let reads : ReadsPlace job.rel.now.columns c.in-Some.place c.args.of.now = rw c.requires.places at c.in-Some.ensures.reads in
    let within : c.in-Some.place < length job.rel.now.columns = rw c.requires.places at c.in-Some.ensures.within in
    let are = rw (c.as_slice-rows.ensures, c.rows.ensures, c.as_slice.ensures) at c.in_ok-all-in-Some.ensures in
    over_reads job c.args.lot.now c.args.op c.args.of.now c.in-Some.place reads within c.law_of_rules.ensures c.in_ok-all-in-Some.all are
    ∙ ap (λ a. marked_value (record { marked = job.uncertain || c.in_ok-all-in-Some.all.marked; answer = a })) c.in_ok-aggregated-in-Some.ensures
