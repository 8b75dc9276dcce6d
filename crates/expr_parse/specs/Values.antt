-- What tokens say.
use Rattle.std.specs.Prelude.{ℕ, ◌-◌, ℤ, pos, ◌==◌, ◌&&◌, Bool, false, if◌then◌else◌, List, [], ◌∷◌, length, map, codes, slice_range, Option, Some, None}
use Rattle.std.specs.Char.{to_ascii_lowercase}
use Rattle.value_types.specs.declared.value.ColumnType.{ColumnType}
use Rattle.value_types.specs.declared.value.ColumnType.TheVariants as type
use Rattle.value_types.specs.Numbers.{int_of, fixed_of}
use Rattle.notebook_grammar.specs.declared.lexeme.Lexeme.{Lexeme}
use Rattle.notebook_grammar.specs.declared.kind.Kind.{Kind}
use Rattle.notebook_grammar.specs.declared.kind.Kind.TheVariants as k
use Rattle.notebook_grammar.specs.Words.{same_word}
use Rattle.expr_parse.specs.declared.piece.Piece.{Piece}
use Rattle.expr_parse.specs.declared.piece.Piece.TheVariants as piece

-- the bytes of a token
abbrev pub token_text : List ℕ → Lexeme → List ℕ
token_text text l = slice_range text l.at l.end

-- a word in lower case
abbrev pub lowered : List ℕ → List ℕ
lowered word = map to_ascii_lowercase word

-- the type that a word names; every word of a type but these three is `text`
abbrev pub type_of : List ℕ → ColumnType
type_of word =
    if same_word word (codes "bool") then type.Bool
    else if same_word word (codes "int") then type.Int
    else if same_word word (codes "fixed") then type.Fixed
    else type.Text

-- the word of a type
abbrev pub type_name : ColumnType → List ℕ
type_name type.Bool = codes "bool"
type_name type.Int = codes "int"
type_name type.Fixed = codes "fixed"
type_name type.Text = codes "text"

-- the number that was read; a token of a number always is one
abbrev pub read : Option ℤ → ℤ
read None = pos 0
read (Some n) = n

-- a number without a point
abbrev pub whole_of : List ℕ → ℤ
whole_of token = read (int_of token)

-- a number with a point, in ten-thousandths
abbrev pub decimal_of : List ℕ → ℤ
decimal_of token = read (fixed_of token)

-- a text in which a quote right after a quote that stays is left out
abbrev pub undoubled : Bool → List ℕ → List ℕ
undoubled after [] = []
undoubled after (b ∷ bs) = if b == 39 && after then undoubled false bs else b ∷ undoubled (b == 39) bs

-- what stands in a text between the quotes at both its ends
abbrev pub quoted_of : List ℕ → List ℕ
quoted_of token = undoubled false (slice_range token 1 (length token - 1))

-- the piece that a token of a kind is: its value, or the number of a CAVEAT; none for other words and marks
abbrev pub value_of : {M : Type 0} → Kind → List ℕ → ℕ → Option (Piece M)
value_of k.Name token call = Some (piece.Name (lowered token))
value_of k.TypeWord token call = Some (piece.TypeWord (type_of token))
value_of k.Whole token call = Some (piece.Whole (whole_of token))
value_of k.Decimal token call = Some (piece.Decimal (decimal_of token))
value_of k.Quoted token call = Some (piece.Quoted (quoted_of token))
value_of k.Caveat token call = Some (piece.Call call)
value_of kind token call = None
