use Rattle.std.proofs.Common.{◌∙◌, arith}
use Rattle.rel_group.proofs.Places.{once_more}
use Rattle.rel_group.proofs.keys.once.Goals as goal

pub loop-i-preserved : goal.loop-i-preserved
loop-i-preserved g c =
    rw (c.in_ok-push_if.ensures, c.in_ok-note.ensures, c.came_before-is_new.ensures, c.as_slice.ensures.value)
    (c.loop-i.invariant
    ∙ once_more c.args.places.now c.args.items.now c.loop-i.all c.loop-i.seen.items c.loop-i.i _ c.index-items-i.result c.loop-i-test.true (omega (arith, c.if-items-i.false)) c.index-items-i.is)
