-- What the texts of tokens are, for whoever reads their values.
use Rattle.std.specs.Prelude.{◌≡◌, ℕ, ◌-◌, true, List, map, take, drop}
use Rattle.std.specs.Char.{to_ascii_lowercase}
use Rattle.std.specs.Option.{is_some}
use Rattle.value_types.specs.Names.{is_name}
use Rattle.value_types.specs.Numbers.{int_of, fixed_of}
use Rattle.notebook_grammar.specs.declared.kind.Kind.TheVariants as k
use Rattle.notebook_grammar.specs.declared.lexeme.Lexeme.{Lexeme}

-- the bytes of a lexeme
abbrev pub text_of : List ℕ → Lexeme → List ℕ
text_of text l = take (l.end - l.at) (drop l.at text)

-- its bytes with small letters
abbrev pub lower_of : List ℕ → Lexeme → List ℕ
lower_of text l = map to_ascii_lowercase (text_of text l)

-- a name is one but for the case of its letters, the word of a type too; a number is an Int or a Fixed
pub record HasValue (text : List ℕ) (l : Lexeme) : Type 0 where
  pub name : l.kind ≡ k.Name → is_name (lower_of text l) ≡ true
  pub type_word : l.kind ≡ k.TypeWord → is_name (lower_of text l) ≡ true
  pub whole : l.kind ≡ k.Whole → is_some (int_of (text_of text l)) ≡ true
  pub decimal : l.kind ≡ k.Decimal → is_some (fixed_of (text_of text l)) ≡ true
