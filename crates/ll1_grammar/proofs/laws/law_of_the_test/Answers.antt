use Rattle.ll1_grammar.proofs.Tested.{is_ll1}
use Rattle.ll1_grammar.proofs.laws.law_of_the_test.Goals as goal

pub returns : goal.returns
returns g c = λ table hints kind fine. is_ll1 table hints kind fine
