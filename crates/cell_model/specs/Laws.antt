-- What holds of every serial run.
use Rattle.std.specs.Prelude.{◌≡◌, List, [], ◌∷◌, true, false}
use Rattle.dataset_types.specs.Envs.{EnvData}
use Rattle.cell_model.specs.declared.cell_result.CellStatus.TheVariants as status
use Rattle.cell_model.specs.Runs.{StepData, is_ok, bare}

-- each step is blocked, with no lines, no writes and no blur, and the environment stays this one
abbrev pub AllBlocked : EnvData → List StepData → Type 0
AllBlocked env [] = Unit {0}
AllBlocked env (s ∷ steps) = (s.result ≡ bare status.Blocked) × (s.env ≡ env) × AllBlocked env steps

-- after each step that isn't ok the others are blocked
abbrev pub StopsAtFault : List StepData → Type 0
StopsAtFault [] = Unit {0}
StopsAtFault (s ∷ steps) = (is_ok s.result.status ≡ false → AllBlocked s.env steps) × StopsAtFault steps

-- a step that isn't ok leaves the environment as it was; the first step's is this one
abbrev pub FaultsKeepEnv : EnvData → List StepData → Type 0
FaultsKeepEnv env [] = Unit {0}
FaultsKeepEnv env (s ∷ steps) = (is_ok s.result.status ≡ false → s.env ≡ env) × FaultsKeepEnv s.env steps

-- each step is ok
abbrev pub IsFreeOfErrors : List StepData → Type 0
IsFreeOfErrors [] = Unit {0}
IsFreeOfErrors (s ∷ steps) = (is_ok s.result.status ≡ true) × IsFreeOfErrors steps
