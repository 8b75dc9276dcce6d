-- A text that goes to a sink by way of words: some first bytes are written, and the rest is held.
use Rattle.std.specs.Prelude.{◌≡◌, ◌++◌, ℕ, List, Option, Result, MatchResult}
use Rattle.std.specs.Io.KnownBytes.{Appends}
use Rattle.outside_io.specs.Texts.{AppendsFront}

-- some first bytes of the text went to the end, and the rest is held
pub record Sent (old new : Option (List ℕ)) (text held : List ℕ) : Type 0 where
  pub front : List ℕ
  pub is : text ≡ front ++ held
  pub went : Appends old new front

-- what was held is sent in part, and the rest is held still; on a fault some first bytes went
abbrev pub Sends : {T E : Type 0}
    → Option (List ℕ) → Option (List ℕ) → Result T E → List ℕ → List ℕ → Type 0
Sends old new result held now =
    MatchResult result (λ _. Sent old new held now) (λ _. AppendsFront old new held)

-- the same of what was held with the text after it
abbrev pub Passes : {T E : Type 0}
    → Option (List ℕ) → Option (List ℕ) → Result T E → List ℕ → List ℕ → List ℕ → Type 0
Passes old new result held now text = Sends old new result (held ++ text) now
