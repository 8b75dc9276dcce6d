-- What a serial run answers.
use Rattle.std.specs.Prelude.{◌≡◌, ◌<◌, ◌≤◌, ◌-◌, ℕ, List, length}
use Rattle.dataset_types.specs.Envs.{empty_env}
use Rattle.cell_model.specs.declared.cell.Cell.{Cell}
use Rattle.cell_model.specs.declared.run.Policy.{Policy}
use Rattle.cell_model.specs.declared.run.Settled.{Settled}
use Rattle.cell_model.specs.declared.run.Ran.{Ran}
use Rattle.cell_model.specs.declared.run.Ran.TheVariants as ran
use Rattle.cell_model.specs.declared.run.RunAll.{RunAll}
use Rattle.cell_model.specs.declared.run.RunAll.TheVariants as all
use Rattle.cell_model.specs.Runs.{StepData, env_after, Reaches}
use Rattle.cell_model.specs.Trails.{cells_of, results_of}

-- a position of the run, counted from 1, and the run goes on after each step before it
pub record IsReached (p : Policy) (position : ℕ) (run : List StepData) : Type 0 where
  pub positive : 0 < position
  pub within : position ≤ length run
  pub reached : Reaches p (position - 1) run

-- the steps of the run, or a position that it reaches
abbrev pub IsRun : Ran → Policy → List StepData → Type 0
IsRun (ran.Done steps) p run = steps ≡ run
IsRun (ran.Starved position) p run = IsReached p position run

-- the cells of these steps, their results, and the environment after them
pub record Settles (settled : Settled) (steps : List StepData) : Type 0 where
  pub cells : settled.cells ≡ cells_of steps
  pub results : settled.results ≡ results_of steps
  pub env : settled.env ≡ env_after empty_env steps

-- the cells settled by the run, or a position that it reaches
abbrev pub IsSettledRun : RunAll → Policy → List Cell → List StepData → Type 0
IsSettledRun (all.Done settled) p cells run = (settled.cells ≡ cells) × Settles settled run
IsSettledRun (all.Starved position) p cells run = IsReached p position run
