-- One answer after another.
use Rattle.std.specs.Prelude.{Ok, List, [], ◌∷◌}
use Rattle.cell_errors.specs.Answers.{Answer, and_then}

-- what is made of each item in turn and of what was made before it, or the first error
abbrev pub folded : {A X : Type 0} → (A → X → Answer A) → A → List X → Answer A
folded f a [] = Ok a
folded f a (x ∷ xs) = and_then (f a x) (λ b. folded f b xs)
