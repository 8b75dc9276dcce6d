use Rattle.dataset_types.specs.Envs.{empty_env}
use Rattle.cell_model.proofs.RunLaws.{same_if_free}
use Rattle.cell_model.proofs.laws.law_of_policies.Goals as goal

pub returns : goal.returns
returns g c = λ p q. same_if_free g.W.CellMeaning.meaning p q empty_env
