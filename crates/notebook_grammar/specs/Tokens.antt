-- The tokens of a text as callers see them.
use Rattle.std.specs.Prelude.{◌≡◌, ℕ, List, [], ◌∷◌, Option, Some, None, slice_get}
use Rattle.notebook_grammar.specs.declared.kind.Kind.{Kind}
use Rattle.notebook_grammar.specs.declared.kind.Kind.TheVariants as k
use Rattle.notebook_grammar.specs.declared.token.TokenKind.{TokenKind}
use Rattle.notebook_grammar.specs.declared.token.TokenKind.TheVariants as kind
use Rattle.notebook_grammar.specs.declared.token.Token.{Token}
use Rattle.notebook_grammar.specs.declared.fault.ParseFault.{ParseFault}
use Rattle.notebook_grammar.specs.declared.fault.ParseFault.TheVariants as fault
use Rattle.notebook_grammar.specs.declared.lexeme.Lexeme.{Lexeme}
use Rattle.notebook_grammar.specs.Lexemes.{LexemesOf}

-- what a kind is as a token; none where no token begins
abbrev pub token_kind : Kind → Option TokenKind
token_kind k.Stray = None
token_kind k.Quoted = Some kind.Quoted
token_kind k.Whole = Some kind.Number
token_kind k.Decimal = Some kind.Number
token_kind k.Equal = Some kind.Mark
token_kind k.NotEqual = Some kind.Mark
token_kind k.Less = Some kind.Mark
token_kind k.AtMost = Some kind.Mark
token_kind k.Greater = Some kind.Mark
token_kind k.AtLeast = Some kind.Mark
token_kind k.Bars = Some kind.Mark
token_kind k.Plus = Some kind.Mark
token_kind k.Minus = Some kind.Mark
token_kind k.Star = Some kind.Mark
token_kind k.Slash = Some kind.Mark
token_kind k.Percent = Some kind.Mark
token_kind k.Point = Some kind.Mark
token_kind k.Comma = Some kind.Mark
token_kind k.Open = Some kind.Mark
token_kind k.Close = Some kind.Mark
token_kind k.Semicolon = Some kind.Mark
token_kind k.OpenBrace = Some kind.Mark
token_kind k.CloseBrace = Some kind.Mark
token_kind word = Some kind.Word

-- each lexeme is this token
pub data Shown : List Lexeme → List Token → Type 0 where
  none : Shown [] []
  one : {l : Lexeme} {ls : List Lexeme} {t : Token} {ts : List Token} → t.at ≡ l.at → t.end ≡ l.end → token_kind l.kind ≡ Some t.kind
      → Shown ls ts → Shown (l ∷ ls) (t ∷ ts)

-- the lexemes of the text are these tokens
abbrev pub AreTokens : List ℕ → List Token → Type 0
AreTokens text ts = (lexemes : List Lexeme) × LexemesOf text lexemes × Shown lexemes ts

-- at this byte place of the text no token begins, and before it only tokens stand
abbrev pub IsRefused : List ℕ → ParseFault → Type 0
IsRefused text (fault.Syntax at) = (lexemes : List Lexeme) × (i : ℕ) × (l : Lexeme) × LexemesOf text lexemes × (slice_get lexemes i ≡ Some l) × (l.kind ≡ k.Stray) × (at ≡ l.at)
IsRefused text fault.NoMemory = Unit {0}
