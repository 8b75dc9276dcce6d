use Rattle.value_types.specs.SameIds.{id_decides}
use Rattle.value_types.proofs.order.law_of_equality.Goals as goal

pub returns-clause-ids : goal.returns-clause-ids
returns-clause-ids c = id_decides
