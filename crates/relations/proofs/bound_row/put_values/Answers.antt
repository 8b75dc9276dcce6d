use Rattle.std.proofs.Common.{sym}
use Rattle.relations.proofs.Revalued.{none_put}
use Rattle.relations.proofs.bound_row.put_values.Goals as goal

pub loop-i-init : goal.loop-i-init
loop-i-init c = sym (none_put c.args.row.now.items)
