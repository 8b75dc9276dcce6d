-- What the functions inside the crate promise each other.
use Rattle.std.specs.Prelude.{◌++◌, Err, IfSome, Option, None, Some, List}
use Rattle.cell_errors.specs.Answers.{Answer}
use Rattle.cell_errors.specs.declared.fault.CellError.TheVariants.{TooLarge}
use Rattle.dataset_types.specs.declared.row.Row.{Row}
use Rattle.expr_meaning.specs.declared.bindings.Binding.{Binding}
use Rattle.expr_meaning.specs.Meaning.{marked_over_row}
use Rattle.relations.specs.declared.batch.Batch.{Batch}
use Rattle.relations.specs.declared.condition.Test.{Test}
use Rattle.relations.specs.Rels.{RelData}
use Rattle.relations.specs.Bound.{bindings}
use Rattle.relations.specs.Batches.{gathered}
use Rattle.relations.specs.Conditions.{test_of}
use Rattle.rel_join.specs.declared.equality.Equality.{Equality}
use Rattle.rel_join.specs.declared.pairs.Job.{Job}
use Rattle.rel_join.specs.Join.{pairs_of, left_row, joined_of, joined}
use Rattle.rel_join.specs.Few.{few_of}
use Rattle.rel_join.specs.Equalities.{ComparesPlaces}

-- the job's ON compares these places among the values of both rows
abbrev pub ComparesOn : Job → Equality → Type 0
ComparesOn job at = ComparesPlaces (job.left.now.columns ++ job.right.now.columns) at job.on.now

-- the places in the job are those that its ON compares
abbrev pub HasPlaces : Job → Type 0
HasPlaces job = IfSome job.equality (ComparesOn job)

-- ON over the bindings of a left row and a right row
abbrev pub job_test : Job → List Binding → Row → Answer Test
job_test job bound r = test_of (marked_over_row (bound ++ bindings job.right.now.columns r.values) job.picks.now job.cell job.on.now)

-- ON over a left row and a right row
abbrev pub job_on : Job → Row → Row → Answer Test
job_on job l r = job_test job (bindings job.left.now.columns l.values) r

-- the pairs of a left row
abbrev pub job_pairs : Job → Row → Answer Batch
job_pairs job l = pairs_of job.left.now.columns job.right.now.columns job.on.now job.picks.now job.cell job.right.now.rows l

-- what the join makes of a left row
abbrev pub job_row : Job → Row → Answer Batch
job_row job l = left_row job.kind job.left.now.columns job.right.now job.on.now job.picks.now job.cell l

-- the result of the whole join
abbrev pub job_joined : Job → Answer RelData
job_joined job = joined job.kind job.left.now job.right.now job.on.now job.picks.now job.cell

-- what the join makes of all left rows, where the rows that it makes are few
abbrev pub job_rows : Job → Answer (Option Batch)
job_rows job = few_of (gathered (job_row job) job.left.now.rows)

-- the result of a join of these rows, where they are few
abbrev pub few_joined : RelData → RelData → Option Batch → Answer RelData
few_joined a b None = Err TooLarge
few_joined a b (Some m) = joined_of a b m
