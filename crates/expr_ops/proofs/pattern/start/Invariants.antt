use Rattle.std.proofs.Common.{◌≡◌, ◌++◌, ◌∷◌, true, drop}
use Rattle.expr_ops.specs.LikeSteps.{none_of}
use Rattle.expr_ops.proofs.pattern.start.Given as goal

abbrev pub invariant-loop-character : goal.invariant-loop-character
invariant-loop-character l = true ∷ none_of l.text ≡ l.reached.items ++ none_of (drop l._character-index l.text)
