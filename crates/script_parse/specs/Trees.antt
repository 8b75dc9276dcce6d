-- The tree of a text.
use Rattle.std.specs.Prelude.{◌≡◌, ℕ, List, [], ◌∷◌, Option, Some, None}
use Rattle.ll1_grammar.specs.Pieces.{Builder, built}
use Rattle.notebook_grammar.specs.declared.lexeme.Lexeme.{Lexeme}
use Rattle.notebook_grammar.specs.declared.action.Action.{Action}
use Rattle.notebook_grammar.specs.declared.action.Action.TheVariants as act
use Rattle.notebook_grammar.specs.declared.start.Start.TheVariants as start
use Rattle.notebook_grammar.specs.Language.{Steps}
use Rattle.notebook_grammar.specs.Texts.{AreSteps}
use Rattle.expr_parse.specs.declared.piece.Piece.{Piece}
use Rattle.expr_parse.specs.declared.piece.Piece.TheVariants as piece
use Rattle.expr_parse.specs.Pieces as expr
use Rattle.script_parse.specs.declared.script.Script.{Script}
use Rattle.script_parse.specs.declared.piece.ScriptPiece.{ScriptPiece}
use Rattle.script_parse.specs.declared.piece.ScriptPiece.TheVariants as part
use Rattle.script_parse.specs.Pieces.{ScriptStack, did}

-- a script has its own actions and those of its expressions
abbrev pub did_either : Action → ScriptStack → Option ScriptStack
did_either (act.Expr a) st = expr.did a st
did_either (act.Script a) st = did a st
did_either a st = None

-- the script is built from the steps of its text
abbrev pub builder : List ℕ → Builder Lexeme Action (Piece ScriptPiece)
builder text = record { took = expr.took text; did = did_either }

-- the text is a script, and this is its tree
abbrev pub IsTreeOf : List ℕ → Script → Type 0
IsTreeOf text s = (steps : Steps) × AreSteps start.Script text steps × (built (builder text) steps [] ≡ Some (piece.Other (part.Script s) ∷ []))
