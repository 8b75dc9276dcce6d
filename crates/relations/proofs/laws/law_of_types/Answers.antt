use Rattle.relations.proofs.TypeLaw.{keeps_type}
use Rattle.relations.proofs.laws.law_of_types.Goals as goal

pub returns : goal.returns
returns c = keeps_type c.args.expr.now
