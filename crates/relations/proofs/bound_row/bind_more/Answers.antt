use Rattle.std.proofs.Common.{drop, append-nil, refl}
use Rattle.relations.proofs.Binds.{no_values}
use Rattle.relations.proofs.bound_row.bind_more.Goals as goal

pub returns-then-values-i : goal.returns-then-values-i
returns-then-values-i c =
    rw (c.loop-i.invariant, no_values (drop c.loop-i.i c.args.columns.now) c.args.values.now c.loop-i.i c.if-values-i.true, append-nil) refl
