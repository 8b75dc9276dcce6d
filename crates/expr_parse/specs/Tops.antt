-- What lies on top of the pieces.
use Rattle.std.specs.Prelude.{◌≡◌, ℕ, ◌+◌, ◌-◌, ◌≤◌, ℤ, List, ◌∷◌, length, Option, Some, slice_index, IsTrue}
use Rattle.value_types.specs.declared.value.ColumnType.{ColumnType}
use Rattle.value_types.specs.Names.{is_name}
use Rattle.notebook_grammar.specs.declared.lexeme.Lexeme.{Lexeme}
use Rattle.notebook_grammar.specs.declared.kind.Kind.TheVariants as k
use Rattle.expr_lang.specs.declared.expr.Expr.{Expr}
use Rattle.expr_lang.specs.declared.expr.Arm.{Arm}
use Rattle.expr_parse.specs.declared.piece.Piece.TheVariants as piece
use Rattle.expr_parse.specs.Values.{token_text, lowered}
use Rattle.expr_parse.specs.Pieces.{Stack}

-- no piece is missing
abbrev pub Goes : {M : Type 0} → Option (Stack M) → Type 0
Goes {M} o = (after : Stack M) × (o ≡ Some after)

-- a name is on top
abbrev pub NameOn : {M : Type 0} → Stack M → Type 0
NameOn {M} st = (name : List ℕ) × (rest : Stack M) × (st ≡ piece.Name name ∷ rest)

-- a type is on top
abbrev pub TypeOn : {M : Type 0} → Stack M → Type 0
TypeOn {M} st = (type : ColumnType) × (rest : Stack M) × (st ≡ piece.TypeWord type ∷ rest)

-- a number without a point is on top
abbrev pub WholeOn : {M : Type 0} → Stack M → Type 0
WholeOn {M} st = (n : ℤ) × (rest : Stack M) × (st ≡ piece.Whole n ∷ rest)

-- a number with a point is on top
abbrev pub DecimalOn : {M : Type 0} → Stack M → Type 0
DecimalOn {M} st = (n : ℤ) × (rest : Stack M) × (st ≡ piece.Decimal n ∷ rest)

-- a text is on top
abbrev pub QuotedOn : {M : Type 0} → Stack M → Type 0
QuotedOn {M} st = (text : List ℕ) × (rest : Stack M) × (st ≡ piece.Quoted text ∷ rest)

-- the number of a CAVEAT is on top
abbrev pub CallOn : {M : Type 0} → Stack M → Type 0
CallOn {M} st = (call : ℕ) × (rest : Stack M) × (st ≡ piece.Call call ∷ rest)

-- an expression is on top
abbrev pub TreeOn : {M : Type 0} → Stack M → Type 0
TreeOn {M} st = (e : Expr) × (rest : Stack M) × (st ≡ piece.Tree e ∷ rest)

-- expressions are on top
abbrev pub ListOn : {M : Type 0} → Stack M → Type 0
ListOn {M} st = (es : List Expr) × (rest : Stack M) × (st ≡ piece.List es ∷ rest)

-- arms are on top
abbrev pub ArmsOn : {M : Type 0} → Stack M → Type 0
ArmsOn {M} st = (arms : List Arm) × (rest : Stack M) × (st ≡ piece.Arms arms ∷ rest)

-- a piece of the language around is on top
abbrev pub OtherOn : {M : Type 0} → Stack M → Type 0
OtherOn {M} st = (m : M) × (rest : Stack M) × (st ≡ piece.Other m ∷ rest)

-- the token stands in the text: a name is one once it is in lower case, and a text has its quotes
pub record StandsIn (text : List ℕ) (l : Lexeme) : Type 0 where
  pub forward : l.at ≤ l.end
  pub within : l.end ≤ length text
  pub name : l.kind ≡ k.Name → IsTrue (is_name (lowered (token_text text l)))
  pub long : l.kind ≡ k.Quoted → l.at + 2 ≤ l.end
  pub opened : l.kind ≡ k.Quoted → slice_index text l.at ≡ 39
  pub closed : l.kind ≡ k.Quoted → slice_index text (l.end - 1) ≡ 39
