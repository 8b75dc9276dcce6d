-- The datasets that a SELECT names.
use Rattle.std.specs.Prelude.{ℕ, List, ◌∷◌, map}
use Rattle.std.specs.List.{flat_map}
use Rattle.name_lists.specs.Nub.{nub}
use Rattle.sql_parse.specs.declared.tables.JoinPart.{JoinPart}
use Rattle.sql_parse.specs.declared.cores.Core.{Core}
use Rattle.sql_parse.specs.declared.select.Select.{Select}

-- the datasets of a core: that behind FROM, then those of its joins
abbrev pub datasets_of : Core → List (List ℕ)
datasets_of core = core.table.dataset ∷ map (λ (j : JoinPart). j.table.dataset) core.joins

-- the names of a SELECT, in the text's order, each once
abbrev pub names_of : Select → List (List ℕ)
names_of select = nub (flat_map datasets_of select.cores)
