use Rattle.ll1_grammar.proofs.OneAhead.{is_unambiguous}
use Rattle.ll1_grammar.proofs.laws.law_of_one_derivation.Goals as goal

pub returns : goal.returns
returns g c = is_unambiguous
