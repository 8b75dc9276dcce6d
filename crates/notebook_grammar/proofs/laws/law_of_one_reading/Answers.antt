use Rattle.notebook_grammar.proofs.OneReading.{one_reading}
use Rattle.notebook_grammar.proofs.laws.law_of_one_reading.Goals as goal

pub returns : goal.returns
returns c = one_reading
