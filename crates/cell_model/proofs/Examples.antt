-- Worked examples of runs, over the small meaning.
use Rattle.std.proofs.Common.{◌≡◌, ℕ, List, [], ◌∷◌, refl, Some, true, false}
use Rattle.std.specs.Prelude.{codes, map}
use Rattle.dataset_types.specs.Tables.{TableData}
use Rattle.dataset_types.specs.declared.slot.Named.{Named}
use Rattle.dataset_types.specs.Envs.{empty_env}
use Rattle.cell_model.specs.declared.cell.Cell.{Cell}
use Rattle.cell_model.specs.declared.cell.CellKind.TheVariants as kind
use Rattle.cell_model.specs.declared.cell_result.CellStatus.{CellStatus}
use Rattle.cell_model.specs.declared.cell_result.CellStatus.TheVariants as status
use Rattle.cell_errors.specs.declared.fault.CellError.TheVariants as error
use Rattle.cell_model.specs.declared.run.Policy.TheVariants as policy
use Rattle.cell_model.specs.Runs.{StepData, run_of, env_after}
use Rattle.cell_model.specs.Trails.{results_of}
use Rattle.cell_model.specs.Sample.{sample_meaning}

-- ---- three cells, the second of them in error

abbrev open_table : TableData
open_table = record { columns = []; rows = []; is_open = true; is_loose = false }

abbrev cell : ℕ → List ℕ → Cell
cell number name = record { id = number; kind = kind.Make name open_table; picks = [] }

abbrev three : List Cell
three = cell 1 (codes "t") ∷ cell 2 (codes "u") ∷ cell 4 (codes "w") ∷ []

abbrev entry : List ℕ → Named
entry name = record { name = name; slot = record { table = Some open_table; doubt = false } }

abbrev statuses : List StepData → List CellStatus
statuses steps = map (λ r. r.status) (results_of steps)

-- under `stop` the third is blocked
stopped_statuses : statuses (run_of sample_meaning policy.Stop three) ≡ status.Ok ∷ status.Error error.ZeroDivisor ∷ status.Blocked ∷ []
stopped_statuses = refl

stopped_env : env_after empty_env (run_of sample_meaning policy.Stop three) ≡ record { slots = entry (codes "t") ∷ []; blurred = false }
stopped_env = refl

-- under `carry` it is run
carried_statuses : statuses (run_of sample_meaning policy.Carry three) ≡ status.Ok ∷ status.Error error.ZeroDivisor ∷ status.Ok ∷ []
carried_statuses = refl

carried_env : env_after empty_env (run_of sample_meaning policy.Carry three) ≡ record { slots = entry (codes "t") ∷ entry (codes "w") ∷ []; blurred = false }
carried_env = refl

-- a dataset that isn't there is an error, and one that is there is read
unread : statuses (run_of sample_meaning policy.Stop (cell 3 (codes "t") ∷ [])) ≡ status.Error error.NoDataset ∷ []
unread = refl

read : statuses (run_of sample_meaning policy.Stop (cell 1 (codes "t") ∷ cell 3 (codes "t") ∷ [])) ≡ status.Ok ∷ status.Ok ∷ []
read = refl
