use Rattle.serde_json.specs.View.{view}
use Rattle.sheet_json.proofs.PlainCommands.{found_plain}
use Rattle.sheet_json.proofs.commands.command_of.Goals as goal

pub returns-clause-plain : goal.returns-clause-plain
returns-clause-plain c = found_plain c.command_in.result (view c.args.json.now) c.command_in.ensures
