-- FROM and WHERE as one step, and what comes after it.
use Rattle.std.proofs.Common.{◌≡◌, Some, Ok, Err, length, refl, ap, sym, ◌∙◌, subst}
use Rattle.std.proofs.lemmas.List.{nil_from_length}
use Rattle.cell_errors.specs.Answers.{Answer, and_then, Fails}
use Rattle.cell_errors.specs.declared.fault.EvalFault.{EvalFault}
use Rattle.cell_errors.specs.declared.fault.EvalFault.TheVariants as fault
use Rattle.expr_lang.specs.declared.expr.Expr.{Expr}
use Rattle.relations.specs.Rels.{RelData}
use Rattle.sql_parse.specs.declared.cores.Core.{Core}
use Rattle.sql_plan.specs.declared.core_plan.CorePlan.{CorePlan}
use Rattle.sql_meaning.specs.declared.job.Job.{Job}
use Rattle.sql_meaning.specs.Steps.{rel_at, joined_tables, filter_if, output_by, distinct_if, core_rel}
use Rattle.sql_meaning.specs.Calls.{steps_of, tables_of, chosen_rows, chosen_at}

again : (a : Answer RelData) (f : RelData → Answer RelData) → and_then (and_then a (λ r. Ok r)) f ≡ and_then a f
again (Ok r) f = refl
again (Err e) f = refl

regroup : (a : Answer RelData) (f g : RelData → Answer RelData) → and_then a (λ r. and_then (f r) g) ≡ and_then (and_then a f) g
regroup (Ok r) f g = refl
regroup (Err e) f g = refl

-- FROM of a single table
pub single : (job : Job) (core : Core) (condition : Expr) → length core.joins ≡ 0 → core.condition ≡ Some condition →
    chosen_rows job core ≡ chosen_at job core.table condition
single job core condition e k = rw (nil_from_length core.joins e, k) (again (rel_at (steps_of job) (tables_of job) core.table) (λ all. (steps_of job).filter all condition))

module _ (job : Job) (c : CorePlan) where
  -- the steps after WHERE
  abbrev pub rest : RelData → Answer RelData
  rest rows = and_then (output_by (steps_of job) rows c.keys c.core.having c.items) (λ out. distinct_if (steps_of job) c.core.distinct out)

  core_is : core_rel (steps_of job) (tables_of job) c ≡ and_then (chosen_rows job c.core) rest
  core_is = regroup (joined_tables (steps_of job) (tables_of job) c.core) (λ all. filter_if (steps_of job) all c.core.condition) rest

  pub core_after : (rows : RelData) → chosen_rows job c.core ≡ Ok rows → core_rel (steps_of job) (tables_of job) c ≡ rest rows
  core_after rows e = core_is ∙ ap (λ a. and_then a rest) e

  fails_then : (f : EvalFault) (a : Answer RelData) → Fails f a → Fails f (and_then a rest)
  fails_then (fault.Error e) a h = rw h refl
  fails_then fault.NoMemory a h = tt

  -- the error of FROM or WHERE is that of the core
  pub core_stops : (f : EvalFault) → Fails f (chosen_rows job c.core) → Fails f (core_rel (steps_of job) (tables_of job) c)
  core_stops f h = subst (Fails f) (sym core_is) (fails_then f (chosen_rows job c.core) h)
