-- When a text is of the language, and where it errs.
use Rattle.std.specs.Prelude.{◌≡◌, ℕ, List, Option, Some, None, length, slice_get}
use Rattle.notebook_grammar.specs.declared.fault.ParseFault.{ParseFault}
use Rattle.notebook_grammar.specs.declared.fault.ParseFault.TheVariants as fault
use Rattle.notebook_grammar.specs.declared.lexeme.Lexeme.{Lexeme}
use Rattle.notebook_grammar.specs.declared.start.Start.{Start}
use Rattle.notebook_grammar.specs.Language.{Steps}
use Rattle.notebook_grammar.specs.Lexemes.{LexemesOf}
use Rattle.notebook_grammar.specs.Limits.{IsSentence, IsWrongAt}

-- the lexemes of the text are a sentence, and these are its steps
abbrev pub AreSteps : Start → List ℕ → Steps → Type 0
AreSteps start text steps = (lexemes : List Lexeme) × LexemesOf text lexemes × IsSentence start lexemes steps

-- the byte place of a lexeme, or the end past the last
abbrev pub place_here : Option Lexeme → ℕ → ℕ
place_here None end = end
place_here (Some l) end = l.at

abbrev pub place_of : List Lexeme → ℕ → ℕ → ℕ
place_of lexemes at end = place_here (slice_get lexemes at) end

-- the lexemes of the text are wrong at this byte place
abbrev pub IsRefused : Start → List ℕ → ParseFault → Type 0
IsRefused start text (fault.Syntax at) = (lexemes : List Lexeme) × (i : ℕ) × LexemesOf text lexemes × IsWrongAt start lexemes i × (at ≡ place_of lexemes i (length text))
IsRefused start text fault.NoMemory = Unit {0}
