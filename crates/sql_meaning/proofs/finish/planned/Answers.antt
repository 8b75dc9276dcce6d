use Rattle.sql_meaning.specs.Calls.{tables_of, headings_at}
use Rattle.sql_meaning.proofs.Columns.{sides_agree, final_names}
use Rattle.sql_meaning.proofs.Planned.{plan_facts}
use Rattle.sql_meaning.proofs.finish.planned.Goals as goal

pub core_rels-requires : goal.core_rels-requires
core_rels-requires c = rw c.as_slice.ensures (plan_facts (headings_at c.args.job.now) c.args.select.now c.args.plan.now c.requires).cores

pub all_united-requires : goal.all_united-requires
all_united-requires c =
    let job = c.args.job.now in
    let facts = plan_facts (headings_at job) c.args.select.now c.args.plan.now c.requires in
    sides_agree job.picks.now job.cell (tables_of job) c.args.plan.now.cores c.in_ok-sides.sides facts.agree facts.cores (rw c.as_slice.ensures at c.in_ok-sides.ensures) facts.sides

pub into_table-requires : goal.into_table-requires
into_table-requires c =
    let job = c.args.job.now in
    let facts = plan_facts (headings_at job) c.args.select.now c.args.plan.now c.requires in
    record {
      names = final_names job.picks.now job.cell (tables_of job) c.args.plan.now.cores c.in_ok-sides.sides c.in_ok-all.all c.in_ok-ordered.ordered c.in_ok-first.first
          c.args.plan.now.order c.args.select.now.limit facts.cores (rw c.as_slice.ensures at c.in_ok-sides.ensures) c.in_ok-all.ensures c.in_ok-ordered.ensures c.in_ok-first.ensures;
    }
