use Rattle.notebook_grammar.proofs.Fitting.{have_trees}
use Rattle.notebook_grammar.proofs.laws.law_of_trees.Goals as goal

pub returns : goal.returns
returns g c = have_trees
