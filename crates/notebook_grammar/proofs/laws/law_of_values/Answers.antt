use Rattle.notebook_grammar.proofs.ValueTexts.{values_are_there}
use Rattle.notebook_grammar.proofs.laws.law_of_values.Goals as goal

pub returns : goal.returns
returns c = values_are_there
