use Rattle.std.proofs.Common.{◌≡◌, length}
use denote.Shadow.{shadow}
use denote.Text.{Utf8}
use Rattle.expr_ops.specs.Texts.{without_front}
use Rattle.expr_ops.proofs.text.without_front.Given as goal

abbrev pub invariant-loop-after : goal.invariant-loop-after
invariant-loop-after l = (without_front l.rest ≡ without_front l.text) × shadow (Utf8 l.rest)

abbrev pub decreases-loop-after : goal.decreases-loop-after
decreases-loop-after l = length l.rest
