use Rattle.text_answers.proofs.TheAnswer.{selects_are_those}
use Rattle.text_answers.proofs.laws.law_of_selects.Goals as goal

pub returns : goal.returns
returns c = selects_are_those
