-- The prefixes of the versions, one by one.
use Rattle.std.specs.Prelude.{ℕ, zero, suc, List, [], ◌∷◌, ◌++◌, length, take}
use Rattle.std.specs.List.{flat_map}
use Rattle.std.specs.Set.{distinct_count}
use Rattle.std.specs.Str.{bytes_eq}
use Rattle.version_tree.specs.Limits.{ids_of}
use Rattle.version_tree.specs.declared.version.Version.{Version}

-- the first so many nonempty prefixes of a list, the shortest first
abbrev pub prefixes_to : ℕ → List ℕ → List (List ℕ)
prefixes_to zero ids = []
prefixes_to (suc n) ids = prefixes_to n ids ++ take (suc n) ids ∷ []

-- the nonempty prefixes of a version's list of ids
abbrev pub prefixes_in : Version → List (List ℕ)
prefixes_in v = prefixes_to (length (ids_of v.cells)) (ids_of v.cells)

-- the nonempty prefixes of all versions, of which some may be equal
abbrev pub all_prefixes : List Version → List (List ℕ)
all_prefixes vs = flat_map prefixes_in vs

-- how many of them there are, where those that are equal count once
abbrev pub distinct_prefixes : List Version → ℕ
distinct_prefixes vs = distinct_count bytes_eq (all_prefixes vs)
