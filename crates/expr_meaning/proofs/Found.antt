-- How far the search of the only match has come.
use Rattle.std.proofs.Common.{Option, Some, None, List, ◌∷◌}
use Rattle.cell_errors.specs.Answers.{Answer}
use Rattle.expr_meaning.specs.Names.{at_most_one}

-- what was found so far, and the matches that are left
abbrev pub with_found : {X : Type 0} → Option X → List X → Answer (Option X)
with_found None xs = at_most_one xs
with_found (Some x) xs = at_most_one (x ∷ xs)
