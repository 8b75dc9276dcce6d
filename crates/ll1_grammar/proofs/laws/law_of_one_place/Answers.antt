use Rattle.ll1_grammar.proofs.Turns.{one_place}
use Rattle.ll1_grammar.proofs.laws.law_of_one_place.Goals as goal

pub returns : goal.returns
returns g c = one_place
