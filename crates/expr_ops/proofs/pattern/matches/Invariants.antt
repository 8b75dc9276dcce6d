use Rattle.std.proofs.Common.{◌≡◌, ◌+◌, length, drop}
use Rattle.expr_ops.specs.Texts.{matches}
use Rattle.expr_ops.specs.LikeSteps.{some_passes}
use Rattle.expr_ops.proofs.pattern.matches.Given as goal

abbrev pub invariant-loop-wanted : goal.invariant-loop-wanted
invariant-loop-wanted l =
    (matches l.wanted-items l.letters.items ≡ some_passes (matches (drop l.wanted-index l.wanted-items)) l.reached.items l.letters.items)
    × (length l.reached.items ≡ length l.letters.items + 1)
