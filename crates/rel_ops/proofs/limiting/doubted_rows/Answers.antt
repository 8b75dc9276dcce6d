use Rattle.std.proofs.Common.{sym}
use Rattle.rel_ops.proofs.LimitLaws.{certain}
use Rattle.rel_ops.proofs.limiting.doubted_rows.Goals as goal

pub returns-else-doubt : goal.returns-else-doubt
returns-else-doubt c = rw c.if-doubt.false (sym (certain c.args.rows))
