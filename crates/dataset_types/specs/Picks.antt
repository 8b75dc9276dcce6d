-- Picks: when two sites are one, and the choice that counts.
use Rattle.std.specs.Prelude.{ℕ, ◌==◌, ◌&&◌, if◌then◌else◌, List, [], ◌∷◌, Bool, false, Option, Some, None}
use Rattle.dataset_types.specs.declared.picks.Site.{Site}
use Rattle.dataset_types.specs.declared.picks.Site.TheVariants as site
use Rattle.dataset_types.specs.declared.picks.Choice.{Choice}
use Rattle.dataset_types.specs.declared.picks.Pick.{Pick}

-- of one kind, with the same numbers
abbrev pub same_site : Site → Site → Bool
same_site (site.Field n c) (site.Field m d) = n == m && c == d
same_site (site.Record n) (site.Record m) = n == m
same_site (site.Call c) (site.Call d) = c == d
same_site a b = false

-- whether the pick is for this site of this cell
abbrev pub is_for : Pick → ℕ → Site → Bool
is_for pick cell site = pick.cell == cell && same_site pick.site site

-- the pick with these parts
abbrev pub pick_of : ℕ → Site → Choice → Pick
pick_of cell site choice = record { cell = cell; site = site; choice = choice }

-- the second, or the first where there is no second
abbrev pub later : Option Choice → Option Choice → Option Choice
later first None = first
later first (Some choice) = Some choice

-- the choice of the last pick for a site of a cell, if there is one
abbrev pub choice_of : List Pick → ℕ → Site → Option Choice
choice_of [] cell site = None
choice_of (p ∷ ps) cell site = later (if is_for p cell site then Some p.choice else None) (choice_of ps cell site)
