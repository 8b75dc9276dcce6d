use Rattle.expr_print.proofs.Back.{prints_and_parses}
use Rattle.expr_print.proofs.laws.law_of_printing.Goals as goal

pub returns : goal.returns
returns c = prints_and_parses
