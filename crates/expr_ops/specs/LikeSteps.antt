-- How a pattern is followed: the places of a text that its front can reach.
use Rattle.std.specs.Prelude.{ℕ, ◌==◌, ◌||◌, ◌&&◌, Bool, false, if◌then◌else◌, List, [], ◌∷◌}

-- all but the first
abbrev pub tail : List ℕ → List ℕ
tail [] = []
tail (c ∷ text) = text

-- whether the text begins with a character that is wanted
abbrev pub begins : ℕ → List ℕ → Bool
begins wanted [] = false
begins wanted (c ∷ text) = wanted == 95 || wanted == c

-- the places that `%` reaches: each that is reached, and all after it
abbrev pub and_after : Bool → List Bool → List Bool
and_after sofar [] = []
and_after sofar (o ∷ os) = (sofar || o) ∷ and_after (sofar || o) os

-- the places that one character reaches: each after one that is reached, where the character stands
abbrev pub one_on : ℕ → Bool → List Bool → List ℕ → List Bool
one_on wanted before [] text = []
one_on wanted before (o ∷ os) text = before ∷ one_on wanted (o && begins wanted text) os (tail text)

-- the places that one part of a pattern reaches
abbrev pub reached : ℕ → List Bool → List ℕ → List Bool
reached wanted os text = if wanted == 37 then and_after false os else one_on wanted false os text

-- whether the text passes a test from a place on that is reached
abbrev pub some_passes : (List ℕ → Bool) → List Bool → List ℕ → Bool
some_passes test [] text = false
some_passes test (o ∷ os) text = (o && test text) || some_passes test os (tail text)

-- the start alone, of so many places after it
abbrev pub none_of : List ℕ → List Bool
none_of [] = []
none_of (c ∷ text) = false ∷ none_of text
