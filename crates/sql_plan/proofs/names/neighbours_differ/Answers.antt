use Rattle.std.proofs.Common.{◌-◌, sym, arith}
use Rattle.sql_plan.specs.Names.{are_distinct}
use Rattle.sql_plan.proofs.Sorting.{texts, told_apart, false_unless, neighbours_tell}
use Rattle.sql_plan.proofs.names.neighbours_differ.Goals as goal

pub returns-then-eq : goal.returns-then-eq
returns-then-eq c =
    let ts = c.args.texts.now in
    false_unless (are_distinct (texts ts))
    (λ e. let differ = told_apart ts (c.loop-later.later - 1) c.loop-later.later e (omega arith) c.loop-later-test.true in grind arith)

pub returns : goal.returns
returns c = sym (neighbours_tell c.args.texts.now c.requires (λ k h. c.loop-later.invariant k (omega arith)))
