use Rattle.sql_meaning.proofs.Erased.{select_erases}
use Rattle.sql_meaning.proofs.Same.{select_keeps_shown}
use Rattle.sql_meaning.proofs.laws.law_of_select.Goals as goal

pub returns-clause-erases : goal.returns-clause-erases
returns-clause-erases c = select_erases c.args.select.now

pub returns-clause-same : goal.returns-clause-same
returns-clause-same c = select_keeps_shown c.args.select.now
