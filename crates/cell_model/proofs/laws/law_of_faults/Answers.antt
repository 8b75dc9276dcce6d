use Rattle.std.proofs.Common.{true}
use Rattle.dataset_types.specs.Envs.{empty_env}
use Rattle.cell_model.proofs.RunLaws.{faults_keep_env}
use Rattle.cell_model.proofs.laws.law_of_faults.Goals as goal

pub returns : goal.returns
returns g c = λ p. faults_keep_env g.W.CellMeaning.meaning g.W.CellMeaning.bare p true empty_env
