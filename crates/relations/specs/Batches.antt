-- What a step makes of each item, one after another.
use Rattle.std.specs.Prelude.{false, ◌||◌, Ok, List, [], ◌∷◌, ◌++◌}
use Rattle.cell_errors.specs.Answers.{Answer, and_then}
use Rattle.relations.specs.declared.batch.Batch.{Batch}

-- no rows, and no mark
abbrev pub nothing : Batch
nothing = record { rows = []; marked = false }

-- the rows of both, marked where one of them is
abbrev pub both : Batch → Batch → Batch
both a b = record { rows = a.rows ++ b.rows; marked = a.marked || b.marked }

-- what each gives, in order, or the first error
abbrev pub gathered : {X : Type 0} → (X → Answer Batch) → List X → Answer Batch
gathered f [] = Ok nothing
gathered f (x ∷ xs) = and_then (f x) (λ b. and_then (gathered f xs) (λ c. Ok (both b c)))
