-- The tree of a text.
use Rattle.std.specs.Prelude.{◌≡◌, ℕ, List, [], ◌∷◌, Option, Some, None}
use Rattle.std.specs.declared.convert.Infallible.{Infallible}
use Rattle.ll1_grammar.specs.Pieces.{Builder, built}
use Rattle.notebook_grammar.specs.declared.lexeme.Lexeme.{Lexeme}
use Rattle.notebook_grammar.specs.declared.action.Action.{Action}
use Rattle.notebook_grammar.specs.declared.action.Action.TheVariants as act
use Rattle.notebook_grammar.specs.declared.start.Start.TheVariants as start
use Rattle.notebook_grammar.specs.Language.{Steps}
use Rattle.notebook_grammar.specs.Texts.{AreSteps}
use Rattle.expr_lang.specs.declared.expr.Expr.{Expr}
use Rattle.expr_parse.specs.declared.piece.Piece.{Piece}
use Rattle.expr_parse.specs.declared.piece.Piece.TheVariants as piece
use Rattle.expr_parse.specs.Pieces.{Stack, did, took}

-- a text that is an expression has no actions of other languages
abbrev pub did_alone : Action → Stack Infallible → Option (Stack Infallible)
did_alone (act.Expr a) st = did a st
did_alone a st = None

-- the expression is built from the steps of its text
abbrev pub builder : List ℕ → Builder Lexeme Action (Piece Infallible)
builder text = record { took = took text; did = did_alone }

-- the text is an expression, and this is its tree
abbrev pub IsTreeOf : List ℕ → Expr → Type 0
IsTreeOf text e = (steps : Steps) × AreSteps start.Expression text steps × (built (builder text) steps [] ≡ Some (piece.Tree e ∷ []))
