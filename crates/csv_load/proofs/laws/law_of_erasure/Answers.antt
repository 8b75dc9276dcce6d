use Rattle.csv_load.proofs.Erasure.{erases}
use Rattle.csv_load.proofs.laws.law_of_erasure.Goals as goal

pub returns : goal.returns
returns c = erases c.args.bytes.now c.args.types.now c.args.repair c.args.picks.now c.args.cell
