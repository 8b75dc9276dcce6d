use Rattle.vizual_edits.proofs.Erasing.{applied_erases}
use Rattle.vizual_edits.proofs.Showing.{applied_keeps}
use Rattle.vizual_edits.proofs.laws.law_of_commands.Goals as goal

pub returns-clause-erases : goal.returns-clause-erases
returns-clause-erases c = applied_erases c.args.command.now c.args.cell c.args.picks.now

pub returns-clause-same : goal.returns-clause-same
returns-clause-same c = applied_keeps c.args.command.now c.args.cell c.args.picks.now c.args.others.now
