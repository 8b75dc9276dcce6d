use Rattle.edit_wire.proofs.Made.{apart}
use Rattle.edit_wire.proofs.make.names_apart.Goals as goal

pub returns : goal.returns
returns c = apart c.names_distinct.result c.args.columns.now c.names_distinct.ensures
