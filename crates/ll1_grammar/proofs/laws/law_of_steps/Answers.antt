use Rattle.ll1_grammar.proofs.Fronts.{steps_take_the_text}
use Rattle.ll1_grammar.proofs.laws.law_of_steps.Goals as goal

pub returns : goal.returns
returns g c = λ grammar s w steps d. steps_take_the_text grammar d
