-- A stable sort, by insertion.
use Rattle.std.specs.Prelude.{Bool, true, false, List, [], ◌∷◌}

-- `lt` says which of two comes first
module _ {X : Type 0} (lt : X → X → Bool) where
  -- x before y, or y before the rest with x in it
  abbrev pub insert_at : Bool → X → X → List X → List X → List X
  insert_at true x y ys rest = y ∷ rest
  insert_at false x y ys rest = x ∷ y ∷ ys

  -- with x before the first that isn't less than it
  abbrev pub inserted : X → List X → List X
  inserted x [] = x ∷ []
  inserted x (y ∷ ys) = insert_at (lt y x) x y ys (inserted x ys)

  -- in order; those that tie stay in their order
  abbrev pub sorted : List X → List X
  sorted [] = []
  sorted (x ∷ xs) = inserted x (sorted xs)
