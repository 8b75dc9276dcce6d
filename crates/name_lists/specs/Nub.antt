-- Lists of names in which each stands once.
use Rattle.std.specs.Prelude.{ℕ, Bool, not, if◌then◌else◌, List, [], ◌∷◌, ◌++◌, filter}
use Rattle.std.specs.List.{list_any}
use Rattle.std.specs.Str.{bytes_eq}

-- each name once, at its first place
abbrev pub nub : List (List ℕ) → List (List ℕ)
nub [] = []
nub (name ∷ names) = name ∷ filter (λ n. not (bytes_eq name n)) (nub names)

-- whether a name is among these
abbrev pub contains : List (List ℕ) → List ℕ → Bool
contains names name = list_any (λ n. bytes_eq n name) names

-- the names with this one too, the last, if it isn't there
abbrev pub added : List (List ℕ) → List ℕ → List (List ℕ)
added names name = if contains names name then names else names ++ name ∷ []

-- the names with all of these too, one after another
abbrev pub all_added : List (List ℕ) → List (List ℕ) → List (List ℕ)
all_added names [] = names
all_added names (name ∷ more) = all_added (added names name) more
