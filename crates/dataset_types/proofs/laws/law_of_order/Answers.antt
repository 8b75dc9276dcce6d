use Rattle.dataset_types.proofs.EnvLemmas.{in_order_set}
use Rattle.dataset_types.proofs.laws.law_of_order.Goals as goal

pub returns : goal.returns
returns c = in_order_set c.args.slots.now c.args.new.now
