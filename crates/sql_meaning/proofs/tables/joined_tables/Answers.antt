use Rattle.std.proofs.Common.{sym, subst}
use Rattle.sql_meaning.specs.Calls.{tables_of, headings_at, AreJoinable}
use Rattle.sql_meaning.proofs.Columns.{rel_columns}
use Rattle.sql_meaning.proofs.tables.joined_tables.Goals as goal

pub all_joined-requires : goal.all_joined-requires
all_joined-requires c =
    let job = c.args.job.now in
    let core = c.args.core.now in
    rw c.as_slice.ensures (subst (λ z. AreJoinable (headings_at job) z core.joins)
    (sym (rel_columns job.picks.now job.cell (tables_of job) core.table c.in_ok-first.first c.in_ok-first.ensures)) c.requires)
