-- Worked examples: names of which none, or one, comes twice.
use Rattle.std.proofs.Common.{◌≡◌, [], ◌∷◌, true, false, refl}
use Rattle.std.specs.Prelude.{codes}
use Rattle.sheet_commands.specs.Apart.{are_apart}

-- two names
two : are_apart (codes "a" ∷ codes "b" ∷ []) ≡ true
two = refl

-- a name that comes again after another
again : are_apart (codes "a" ∷ codes "b" ∷ codes "a" ∷ []) ≡ false
again = refl
