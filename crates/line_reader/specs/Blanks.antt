-- Lines that are skipped.
use Rattle.std.specs.Prelude.{ℕ, ◌||◌, ◌==◌, List, Bool}
use Rattle.std.specs.List.{list_all}

-- a space, a tab or a carriage return
abbrev pub is_space : ℕ → Bool
is_space b = b == 32 || b == 9 || b == 13

-- a line of these alone
abbrev pub is_blank : List ℕ → Bool
is_blank line = list_all is_space line
