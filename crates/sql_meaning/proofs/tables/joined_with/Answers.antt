use Rattle.std.proofs.Common.{sym, subst}
use Rattle.rel_join.specs.Rules.{AreApart}
use Rattle.sql_meaning.specs.Calls.{tables_of}
use Rattle.sql_meaning.proofs.Columns.{rel_columns}
use Rattle.sql_meaning.proofs.tables.joined_with.Goals as goal

pub joined-requires : goal.joined-requires
joined-requires c =
    let job = c.args.job.now in
    subst (AreApart c.args.sofar.now.columns) (sym (rel_columns job.picks.now job.cell (tables_of job) c.args.part.now.table c.in_ok-right.right c.in_ok-right.ensures)) c.requires
