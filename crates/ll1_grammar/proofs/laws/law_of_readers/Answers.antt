use Rattle.ll1_grammar.proofs.Turns.{readers_are_right}
use Rattle.ll1_grammar.proofs.laws.law_of_readers.Goals as goal

pub returns : goal.returns
returns g c = readers_are_right
