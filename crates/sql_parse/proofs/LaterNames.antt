-- The names of the cores that are left.
use Rattle.std.proofs.Common.{◌≡◌, ℕ, ◌+◌, ◌<◌, List, ◌++◌, length, drop, get_or, sym, ap, ◌∙◌}
use Rattle.std.specs.List.{flat_map}
use Rattle.std.proofs.lemmas.List.{at_drop_more}
use Rattle.name_lists.specs.Nub.{all_added}
use Rattle.name_lists.proofs.Nubs.{all_added-append}
use Rattle.sql_parse.specs.declared.cores.Core.{Core}
use Rattle.sql_parse.specs.Names.{datasets_of}

-- the next core's names come first
pub one_core : (names : List (List ℕ)) (cores : List Core) (i : ℕ) (core : Core) → i < length cores → core ≡ get_or cores i core
    → all_added names (flat_map datasets_of (drop i cores)) ≡ all_added (all_added names (datasets_of core)) (flat_map datasets_of (drop (i + 1) cores))
one_core names cores i core below is =
    at_drop_more (λ cs. all_added names (flat_map datasets_of cs)) cores i core below
    ∙ ap (λ c. all_added names (datasets_of c ++ flat_map datasets_of (drop (i + 1) cores))) (sym is)
    ∙ all_added-append names (datasets_of core) (flat_map datasets_of (drop (i + 1) cores))
