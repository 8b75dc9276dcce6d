use Rattle.std.proofs.Common.{sym, ◌∙◌, subst}
use Rattle.std.specs.Prelude.{IsTrue}
use Rattle.std.proofs.lemmas.Result.{err_from_is_err_and}
use Rattle.relations.proofs.Gathered.{then_ok}
use Rattle.rel_group.specs.Keys.{are_places}
use Rattle.sql_plan.proofs.Facts.{core_facts}
use Rattle.sql_meaning.specs.Steps.{joined_tables, filter_if}
use Rattle.sql_meaning.specs.Calls.{steps_of, tables_of, headings_at}
use Rattle.sql_meaning.proofs.Chosen.{core_stops}
use Rattle.sql_meaning.proofs.Columns.{filter_if_columns, from_columns, keys_are}
use Rattle.sql_meaning.proofs.Joinable.{core_joinable}
use Rattle.sql_meaning.proofs.cores.core_rel.Goals as goal

pub filtered_tables-requires : goal.filtered_tables-requires
filtered_tables-requires c = core_joinable (headings_at c.args.job.now) c.args.core.now c.requires

pub output_by-requires-clause-names : goal.output_by-requires-clause-names
output_by-requires-clause-names c = (core_facts (headings_at c.args.job.now) c.args.core.now.core c.args.core.now c.requires).names

pub output_by-requires-clause-places : goal.output_by-requires-clause-places
output_by-requires-clause-places c = λ ks e.
    let job = c.args.job.now in
    let core = c.args.core.now in
    let facts = core_facts (headings_at job) core.core core c.requires in
    let p = then_ok (joined_tables (steps_of job) (tables_of job) core.core) (λ all. filter_if (steps_of job) all core.core.condition) c.in_ok-rows.rows c.in_ok-rows.ensures in
    subst (λ cs. IsTrue (are_places cs ks))
    (sym (filter_if_columns job.picks.now job.cell p.0 c.in_ok-rows.rows core.core.condition p.2
    ∙ from_columns job.picks.now job.cell (tables_of job) core.core p.0 facts.columns p.1 facts.tables))
    (keys_are job.picks.now job.cell (tables_of job) core.core core facts ks e)

pub returns-in_err-rows : goal.returns-in_err-rows
returns-in_err-rows c =
    let p = err_from_is_err_and c.from_residual.result c.from_residual.ensures.1 in
    rw (p.1, p.2) (core_stops c.args.job.now c.args.core.now c.in_err-rows.field-0.0 c.in_err-rows.ensures)
