-- Each text has steps, or a place where it errs.
use Rattle.std.specs.Prelude.{ℕ, List, ◌⊎◌}
use Rattle.notebook_grammar.specs.declared.fault.ParseFault.TheVariants.{Syntax}
use Rattle.notebook_grammar.specs.declared.lexeme.Lexeme.{Lexeme}
use Rattle.notebook_grammar.specs.declared.start.Start.{Start}
use Rattle.notebook_grammar.specs.Language.{Steps}
use Rattle.notebook_grammar.specs.Lexemes.{LexemesOf}
use Rattle.notebook_grammar.specs.Limits.{IsSentence, IsWrongAt}
use Rattle.notebook_grammar.specs.Texts.{AreSteps, IsRefused}

-- the text is cut into lexemes
abbrev pub IsCut : List ℕ → Type 0
IsCut text = (lexemes : List Lexeme) × LexemesOf text lexemes

-- the lexemes are a sentence, or wrong at a place
abbrev pub AreRead : Start → List Lexeme → Type 0
AreRead start lexemes = ((steps : Steps) × IsSentence start lexemes steps) ⊎ ((at : ℕ) × IsWrongAt start lexemes at)

-- the text has steps, or errs at a byte place
abbrev pub IsRead : Start → List ℕ → Type 0
IsRead start text = ((steps : Steps) × AreSteps start text steps) ⊎ ((at : ℕ) × IsRefused start text (Syntax at))

-- no text is left out, whatever it is to be
abbrev pub EachTextIsRead : Type 0
EachTextIsRead = (start : Start) (text : List ℕ) → IsRead start text
