use Rattle.ll1_grammar.proofs.ShortOnes.{is_productive}
use Rattle.ll1_grammar.proofs.laws.law_of_short_sentences.Goals as goal

pub returns : goal.returns
returns g c = is_productive
