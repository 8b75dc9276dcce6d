-- What is true of every list of names.
use Rattle.std.specs.Prelude.{◌≡◌, ℕ, List, []}
use Rattle.name_lists.specs.Nub.{nub, all_added}

-- names that are added one after another, beginning with none, are those names, each once
abbrev pub AddingGivesEachOnce : Type 0
AddingGivesEachOnce = (names : List (List ℕ)) → all_added [] names ≡ nub names
