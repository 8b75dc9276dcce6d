-- A field that is cleaned byte by byte.
use Rattle.std.proofs.Common.{ℕ, List, [], ◌∷◌, Bool}
use Rattle.std.specs.Prelude.{◌||◌}
use Rattle.csv_load.specs.Names.{begins_apart, linked, cleaned}

-- what is still to come of a field after a part of its name
abbrev pub to_come : List ℕ → Bool → List ℕ → List ℕ
to_come [] apart rest = cleaned rest
to_come (b ∷ bs) apart rest = linked (apart || begins_apart rest) (cleaned rest)
