use Rattle.ll1_grammar.proofs.OneAhead.{place_is_exact}
use Rattle.ll1_grammar.proofs.laws.law_of_the_place.Goals as goal

pub returns : goal.returns
returns g c = λ grammar k ll p n u o st. place_is_exact grammar k ll p n u o st
