-- Lists without what stands at their ends.
use Rattle.std.specs.Prelude.{ℕ, ◌==◌, if◌then◌else◌, List, [], ◌∷◌, Bool, true, false}

-- without the items in front that pass the test
abbrev pub without_front : (ℕ → Bool) → List ℕ → List ℕ
without_front p [] = []
without_front p (x ∷ xs) = if p x then without_front p xs else x ∷ xs

-- an item before a rest, but nothing where the item may go and the rest is empty
abbrev pub onto : Bool → ℕ → List ℕ → List ℕ
onto true x [] = []
onto true x (y ∷ ys) = x ∷ y ∷ ys
onto false x rest = x ∷ rest

-- without the items at the end that pass the test
abbrev pub without_end : (ℕ → Bool) → List ℕ → List ℕ
without_end p [] = []
without_end p (x ∷ xs) = onto (p x) x (without_end p xs)

-- a space
abbrev pub is_space : ℕ → Bool
is_space b = b == 32

-- a field without spaces at both its ends
abbrev pub stripped : List ℕ → List ℕ
stripped field = without_end is_space (without_front is_space field)
