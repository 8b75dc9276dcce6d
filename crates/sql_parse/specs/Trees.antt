-- The tree of a text.
use Rattle.std.specs.Prelude.{◌≡◌, ℕ, List, [], ◌∷◌, Option, Some, None}
use Rattle.ll1_grammar.specs.Pieces.{Builder, built}
use Rattle.notebook_grammar.specs.declared.lexeme.Lexeme.{Lexeme}
use Rattle.notebook_grammar.specs.declared.action.Action.{Action}
use Rattle.notebook_grammar.specs.declared.action.Action.TheVariants as act
use Rattle.notebook_grammar.specs.declared.start.Start.TheVariants as start
use Rattle.notebook_grammar.specs.Language.{Steps}
use Rattle.notebook_grammar.specs.Texts.{AreSteps}
use Rattle.expr_parse.specs.declared.piece.Piece.{Piece}
use Rattle.expr_parse.specs.declared.piece.Piece.TheVariants as piece
use Rattle.expr_parse.specs.Pieces as expr
use Rattle.sql_parse.specs.declared.select.Select.{Select}
use Rattle.sql_parse.specs.declared.piece.SelectPiece.{SelectPiece}
use Rattle.sql_parse.specs.declared.piece.SelectPiece.TheVariants as part
use Rattle.sql_parse.specs.Pieces.{SelectStack, did}

-- a SELECT has its own actions and those of its expressions
abbrev pub did_either : Action → SelectStack → Option SelectStack
did_either (act.Expr a) st = expr.did a st
did_either (act.Select a) st = did a st
did_either a st = None

-- the SELECT is built from the steps of its text
abbrev pub builder : List ℕ → Builder Lexeme Action (Piece SelectPiece)
builder text = record { took = expr.took text; did = did_either }

-- the text is a SELECT, and this is its tree
abbrev pub IsTreeOf : List ℕ → Select → Type 0
IsTreeOf text s = (steps : Steps) × AreSteps start.Select text steps × (built (builder text) steps [] ≡ Some (piece.Other (part.Select s) ∷ []))
