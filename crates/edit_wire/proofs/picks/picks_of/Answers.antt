-- A pick more is in front of those of the lines that are left.
use Rattle.std.proofs.Common.{◌∙◌, ◌+◌, sym, refl, ap, arith, Some}
use Rattle.edit_wire.specs.PicksFile as spec
use Rattle.edit_wire.proofs.PicksLemmas.{after_pick}
use Rattle.edit_wire.proofs.picks.picks_of.Goals as goal

pub loop-line-preserved-in_ok-push-in-Some-Some : goal.loop-line-preserved-in_ok-push-in-Some-Some
loop-line-preserved-in_ok-push-in-Some-Some c =
    let n = c.loop-line.number in (
      omega (arith, c.loop-line.invariant.0, c.in-Some.ensures.shorter),
      after_pick (spec.picks_of c.args.bytes.now) c.loop-line.picks c.push.new.self c.in-Some-Some.pick n (n + 1) c.in-Some.line.now c.loop-line.rest.now c.in-Some.more.now
          refl c.loop-line.invariant.1 c.in-Some.ensures.lines (sym (c.in-Some-Some.is ∙ ap Some c.in-Some-Some.field-0-is) ∙ c.in_ok-pick.ensures) c.in_ok-push-in-Some-Some.ensures.ok,
    )
