use Rattle.expr_meaning.proofs.Erased.{erases_to}
use Rattle.expr_meaning.proofs.laws.law_of_erasure.Goals as goal

pub returns : goal.returns
returns c = erases_to c.args.expr.now
