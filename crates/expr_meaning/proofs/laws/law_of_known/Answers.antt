use Rattle.expr_meaning.proofs.KnownLaw.{is_known}
use Rattle.expr_meaning.proofs.laws.law_of_known.Goals as goal

pub returns : goal.returns
returns c = is_known c.args.expr.now
