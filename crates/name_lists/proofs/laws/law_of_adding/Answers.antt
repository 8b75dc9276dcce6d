use Rattle.name_lists.proofs.Nubs.{added_to_none}
use Rattle.name_lists.proofs.laws.law_of_adding.Goals as goal

pub returns : goal.returns
returns c = added_to_none
