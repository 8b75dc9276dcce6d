use Rattle.ll1_grammar.proofs.Counting.{alternatives_count}
use Rattle.ll1_grammar.proofs.laws.law_of_alternatives.Goals as goal

pub returns : goal.returns
returns g c = alternatives_count
