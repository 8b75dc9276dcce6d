-- The law of erasure: marks, doubt and flags only say more of what the plain run gives.
use Rattle.std.specs.Prelude.{◌≡◌, List, map}
use Rattle.dataset_types.specs.Plain.{erased_env}
use Rattle.cell_model.specs.declared.cell.Cell.{Cell}
use Rattle.cell_model.specs.declared.run.Policy.{Policy}
use Rattle.cell_model.specs.Runs.{StepData, run_of}
use Rattle.cell_kinds.specs.Kinds.{meaning}
use Rattle.cell_kinds.specs.Plain.{PlainStep, plain_run_of}

-- a step of a run without its marks
abbrev pub erased_step : StepData → PlainStep
erased_step s = record {
  status = s.result.status;
  lines = map (λ l. l.text) s.result.lines;
  env = erased_env s.env;
}

-- without its marks, the run of these cells is their plain run
abbrev pub Erases : Policy → List Cell → Type 0
Erases p cells = map erased_step (run_of meaning p cells) ≡ plain_run_of p cells
