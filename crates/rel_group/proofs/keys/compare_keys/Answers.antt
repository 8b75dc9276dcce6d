use Rattle.std.proofs.Common.{sym, ◌∙◌, arith}
use Rattle.rel_group.proofs.Comparing.{longer, shorter}
use Rattle.rel_group.proofs.keys.compare_keys.Goals as goal

pub returns-then-b-i : goal.returns-then-b-i
returns-then-b-i c = sym (c.loop-i.invariant ∙ longer c.args.a.now c.args.b.now c.loop-i.i c.loop-i-test.true c.if-b-i.true)

pub returns-then-a-b : goal.returns-then-a-b
returns-then-a-b c =
    sym (c.loop-i.invariant ∙ shorter c.args.a.now c.args.b.now c.loop-i.i (omega (arith, c.loop-i-test.false)) (omega (arith, c.loop-i-test.false, c.if-a-b.true, c.loop-i.auto.i-end)))
