use Rattle.std.proofs.lemmas.Result.{err_from_is_err_and}
use Rattle.relations.proofs.Collecting.{stops_at}
use Rattle.sql_meaning.specs.Steps.{core_rel}
use Rattle.sql_meaning.specs.Calls.{steps_of, tables_of, headings_at}
use Rattle.sql_meaning.proofs.Joinable.{planned_at}
use Rattle.sql_meaning.proofs.cores.core_rels.Goals as goal

pub core_rel-requires : goal.core_rel-requires
core_rel-requires c =
    planned_at (headings_at c.args.job.now) c.args.cores.now c.loop-core.core-index c.core-item.result c.requires c.loop-core-test.true c.core-item.is

pub returns-in_err-rel : goal.returns-in_err-rel
returns-in_err-rel c =
    let p = err_from_is_err_and c.from_residual-in_err-rel.result c.from_residual-in_err-rel.ensures.1 in
    rw (p.1, p.2) (stops_at (core_rel (steps_of c.args.job.now) (tables_of c.args.job.now)) _ c.loop-core.all c.args.cores.now c.loop-core.core-index c.core-item.result c.in_err-rel.field-0.0
    c.loop-core.invariant c.loop-core-test.true c.core-item.is c.in_err-rel.ensures)
