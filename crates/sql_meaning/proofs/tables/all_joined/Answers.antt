use Rattle.std.proofs.Common.{◌+◌, ◌∷◌, drop, sym, ap, ◌∙◌, subst}
use Rattle.std.proofs.lemmas.List.{drop_more}
use Rattle.sql_plan.proofs.Folding.{went_on_at}
use Rattle.sql_meaning.specs.Steps.{joined_with}
use Rattle.sql_meaning.specs.Calls.{steps_of, tables_of, headings_at, AreJoinable}
use Rattle.sql_meaning.proofs.Columns.{joined_columns}
use Rattle.sql_meaning.proofs.tables.all_joined.Goals as goal

pub loop-part-preserved : goal.loop-part-preserved
loop-part-preserved c =
    let job = c.args.job.now in
    let joins = c.args.joins.now in
    let i = c.loop-part.part-index in
    let part = c.part-item.result in
    let sofar = c.loop-part.sofar in
    let more = c.in_ok-sofar.sofar in
    let next = drop_more joins i part c.loop-part-test.true ∙ ap (λ z. z ∷ drop (i + 1) joins) (sym c.part-item.is) in
    let able = subst (AreJoinable (headings_at job) sofar.columns) next c.loop-part.invariant.1 in (
      c.loop-part.invariant.0 ∙ went_on_at (joined_with (steps_of job) (tables_of job)) sofar more joins i part c.loop-part-test.true c.part-item.is c.in_ok-sofar.ensures,
      subst (λ z. AreJoinable (headings_at job) z (drop (i + 1) joins)) (sym (joined_columns job.picks.now job.cell (tables_of job) sofar more part c.in_ok-sofar.ensures)) able.1,
    )
