-- What is true of every text.
use Rattle.std.specs.Prelude.{◌≡◌, ℕ, List, ◌<◌, ◌≤◌, [], ◌∷◌, length, slice_get, Some}
use Rattle.ll1_grammar.specs.Grammar.{Derives, IsUnambiguous}
use Rattle.ll1_grammar.specs.Pieces.{Builder, KeepsShapes, BuildsOne}
use Rattle.notebook_grammar.specs.declared.rule.Rule.{Rule}
use Rattle.notebook_grammar.specs.declared.action.Action.{Action}
use Rattle.notebook_grammar.specs.declared.lexeme.Lexeme.{Lexeme}
use Rattle.notebook_grammar.specs.declared.start.Start.{Start}
use Rattle.notebook_grammar.specs.declared.fault.ParseFault.TheVariants.{Syntax}
use Rattle.notebook_grammar.specs.declared.token.Token.{Token}
use Rattle.notebook_grammar.specs.Lexemes.{LexemesOf}
use Rattle.notebook_grammar.specs.Values.{HasValue}
use Rattle.notebook_grammar.specs.Tokens.{AreTokens}
use Rattle.notebook_grammar.specs.Language.{language, at_room, start_of, kind_code, Steps}
use Rattle.notebook_grammar.specs.Effects.{shapes}
use Rattle.notebook_grammar.specs.Parts.{part_of, shape_of}
use Rattle.notebook_grammar.specs.Texts.{AreSteps, IsRefused}

-- a text has one list of lexemes
abbrev pub OneReading : Type 0
OneReading = (text : List ℕ) (a b : List Lexeme) → LexemesOf text a → LexemesOf text b → a ≡ b

-- the tokens stand one after another between two places, and none is empty
abbrev pub StandInOrder : ℕ → ℕ → List Token → Type 0
StandInOrder from to [] = from ≤ to
StandInOrder from to (t ∷ ts) = (from ≤ t.at) × (t.at < t.end) × StandInOrder t.end to ts

-- the tokens of a text are slices of it, in order
abbrev pub TokensInOrder : Type 0
TokensInOrder = (text : List ℕ) (ts : List Token) → AreTokens text ts → StandInOrder 0 (length text) ts

-- a token that holds a value has its text
abbrev pub ValuesAreThere : Type 0
ValuesAreThere = (text : List ℕ) (ls : List Lexeme) → LexemesOf text ls → (i : ℕ) (l : Lexeme) → slice_get ls i ≡ Some l → HasValue text l

-- lexemes have one derivation from a rule
abbrev pub OneDerivation : Type 0
OneDerivation = (rule : Rule) (room : ℕ) → IsUnambiguous language (at_room rule room)

-- a text has one list of steps or is wrong at one place, and not both
pub record OneAnswer : Type 0 where
  pub steps : (start : Start) (text : List ℕ) (a b : Steps) → AreSteps start text a → AreSteps start text b → a ≡ b
  pub place : (start : Start) (text : List ℕ) (a b : ℕ) → IsRefused start text (Syntax a) → IsRefused start text (Syntax b) → a ≡ b
  pub apart : (start : Start) (text : List ℕ) (steps : Steps) (at : ℕ) → AreSteps start text steps → IsRefused start text (Syntax at) → ⊥

-- whoever keeps to the shapes builds one piece of a text, its tree, and never lacks a piece
abbrev pub HaveTrees : Type 0 → Type 0
HaveTrees P = (start : Start) (b : Builder Lexeme Action P) (shape : P → ℕ) → KeepsShapes (part_of start) b shapes kind_code shape
    → (lexemes : List Lexeme) (steps : Steps) → Derives language (start_of start) lexemes steps → BuildsOne b shape (shape_of start) steps
