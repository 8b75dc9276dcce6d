-- A text that is written in several calls.
use Rattle.std.specs.Prelude.{◌≡◌, ◌++◌, ℕ, List, Result, MatchResult, Option}
use Rattle.std.specs.Io.KnownBytes.{Appends}

-- some first bytes of the text went to the end
abbrev pub AppendsFront : Option (List ℕ) → Option (List ℕ) → List ℕ → Type 0
AppendsFront old new text = (front rest : List ℕ) × (text ≡ front ++ rest) × Appends old new front

-- the text went to the end, or on a fault some first bytes of it
abbrev pub WritesText : {T E : Type 0} → Option (List ℕ) → Option (List ℕ) → Result T E → List ℕ → Type 0
WritesText old new result text = MatchResult result (λ _. Appends old new text) (λ _. AppendsFront old new text)
