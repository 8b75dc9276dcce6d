-- The loop over the right rows of a left one.
use Rattle.std.proofs.Common.{◌≡◌, ℕ, ◌+◌, ◌<◌, length, drop, get_or, Option, Some, Ok, List, refl}
use Rattle.cell_errors.specs.Answers.{Answer, Fails}
use Rattle.cell_errors.specs.declared.fault.EvalFault.{EvalFault}
use Rattle.cell_errors.specs.declared.fault.EvalFault.TheVariants as fault
use Rattle.dataset_types.specs.declared.row.Row.{Row}
use Rattle.expr_meaning.specs.declared.bindings.Binding.{Binding}
use Rattle.relations.specs.declared.batch.Batch.{Batch}
use Rattle.relations.specs.declared.condition.Test.{Test}
use Rattle.relations.specs.Bound.{bindings}
use Rattle.rel_join.specs.Few.{both_few}
use Rattle.relations.specs.Conditions.{kept}
use Rattle.rel_join.proofs.FewRows.{few_from, few_begun, few_went_on_at, few_stops_at, few_ended_at}
use Rattle.rel_join.specs.declared.pairs.Job.{Job}
use Rattle.rel_join.specs.Join.{paired, pair_row}
use Rattle.rel_join.specs.Jobs.{job_test}

-- what the join makes of a pair
abbrev pub job_pair : Job → Row → Row → Answer Batch
job_pair job l r = pair_row job.left.now.columns job.right.now.columns job.on.now job.picks.now job.cell l r

module _ (job : Job) (l : Row) where
  abbrev bound : List Binding
  bound = bindings job.left.now.columns l.values

  pair_is : (r : Row) (t : Test) → job_test job bound r ≡ Ok t → job_pair job l r ≡ Ok (kept (paired l r) t)
  pair_is r t e = rw e refl

  -- one right row more
  pub pairs_went_on : (b : Option Batch) (rs : List Row) (i : ℕ) (r : Row) (t : Test) → i < length rs → r ≡ get_or rs i r → job_test job bound r ≡ Ok t →
      few_from b (job_pair job l) (drop i rs) ≡ few_from (both_few b (Some (kept (paired l r) t))) (job_pair job l) (drop (i + 1) rs)
  pairs_went_on b rs i r t h e k = few_went_on_at (job_pair job l) b (kept (paired l r) t) rs i r h e (pair_is r t k)

  fails_too : (r : Row) (f : EvalFault) → Fails f (job_test job bound r) → Fails f (job_pair job l r)
  fails_too r (fault.Error e) h = rw h refl
  fails_too r fault.NoMemory h = tt

  -- the error of one ON is that of all
  pub pairs_stop : (all : Answer (Option Batch)) (b : Option Batch) (rs : List Row) (i : ℕ) (r : Row) (f : EvalFault) → all ≡ few_from b (job_pair job l) (drop i rs) → i < length rs →
      r ≡ get_or rs i r → Fails f (job_test job bound r) → Fails f all
  pairs_stop all b rs i r f w h e k = few_stops_at (job_pair job l) all b rs i r f w h e (fails_too r f k)

-- what the proof of the loop uses
pub ruleset pairing = (few_begun, pairs_went_on, few_ended_at)
