use Rattle.notebook_grammar.proofs.OneAnswer.{one_answer}
use Rattle.notebook_grammar.proofs.laws.law_of_one_answer.Goals as goal

pub returns : goal.returns
returns c = one_answer
