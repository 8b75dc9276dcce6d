use Rattle.std.proofs.Common.{true}
use Rattle.dataset_types.specs.Envs.{empty_env}
use Rattle.cell_model.proofs.RunLaws.{stops_at_fault}
use Rattle.cell_model.proofs.laws.law_of_stop.Goals as goal

pub returns : goal.returns
returns g c = stops_at_fault g.W.CellMeaning.meaning true empty_env
