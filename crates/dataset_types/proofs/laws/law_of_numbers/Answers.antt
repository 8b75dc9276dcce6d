use Rattle.std.proofs.Common.{sym, subst, length}
use Rattle.dataset_types.specs.Tables.{Distinct}
use Rattle.dataset_types.proofs.TableLemmas.{distinct_numbered}
use Rattle.dataset_types.proofs.laws.law_of_numbers.Goals as goal

pub returns : goal.returns
returns c = λ e. subst Distinct (sym e) (distinct_numbered (length c.args.rows.now))
