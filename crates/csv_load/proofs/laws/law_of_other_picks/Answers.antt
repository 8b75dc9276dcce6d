use Rattle.csv_load.proofs.OtherPicks.{shows_the_same}
use Rattle.csv_load.proofs.laws.law_of_other_picks.Goals as goal

pub returns : goal.returns
returns c = shows_the_same c.args.bytes.now c.args.types.now c.args.repair c.args.picks.now c.args.others.now c.args.cell
