use Rattle.notebook_grammar.proofs.InOrder.{tokens_in_order}
use Rattle.notebook_grammar.proofs.laws.law_of_order.Goals as goal

pub returns : goal.returns
returns c = tokens_in_order
