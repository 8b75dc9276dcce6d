use Rattle.notebook_grammar.proofs.OneAnswer.{one_derivation}
use Rattle.notebook_grammar.proofs.laws.law_of_one_derivation.Goals as goal

pub returns : goal.returns
returns c = one_derivation
