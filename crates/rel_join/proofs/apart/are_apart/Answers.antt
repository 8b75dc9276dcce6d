use Rattle.std.proofs.Common.{◌∙◌, sym}
use Rattle.rel_join.proofs.ApartKeys.{apart_is}
use Rattle.rel_join.proofs.apart.are_apart.Goals as goal

pub returns-clause-apart : goal.returns-clause-apart
returns-clause-apart c = λ e. apart_is c.args.left.now.columns c.args.right.now.columns (sym c.columns_apart.ensures ∙ e)
