use Rattle.dataset_types.proofs.EnvLemmas.{look-after_writes}
use Rattle.dataset_types.proofs.laws.law_of_reading.Goals as goal

pub returns : goal.returns
returns c = look-after_writes c.args.env.now c.args.blur c.args.writes.now c.args.name.now
