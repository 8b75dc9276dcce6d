use Rattle.text_answers.proofs.TheAnswer.{expressions_are_those}
use Rattle.text_answers.proofs.laws.law_of_expressions.Goals as goal

pub returns : goal.returns
returns c = expressions_are_those
