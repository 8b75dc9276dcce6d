use Rattle.ll1_grammar.proofs.Fronts.{one_front}
use Rattle.ll1_grammar.proofs.laws.law_of_fronts.Goals as goal

pub returns : goal.returns
returns g c = λ grammar k ll n u v w t front rest other e p d. one_front grammar k ll n u v w t front rest other e p d
