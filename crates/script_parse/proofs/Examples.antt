-- Worked examples: the tree of a text's steps.
use Rattle.std.proofs.Common.{◌≡◌, ℕ, Some, None, [], ◌∷◌, refl}
use Rattle.std.specs.Prelude.{codes}
use Rattle.ll1_grammar.specs.declared.symbol.Step.{Step}
use Rattle.ll1_grammar.specs.declared.symbol.Step.TheVariants.{Took, Did}
use Rattle.ll1_grammar.specs.Pieces.{built}
use Rattle.notebook_grammar.specs.declared.kind.Kind.{Kind}
use Rattle.notebook_grammar.specs.declared.kind.Kind.TheVariants as k
use Rattle.notebook_grammar.specs.declared.lexeme.Lexeme.{Lexeme}
use Rattle.notebook_grammar.specs.declared.action.Action.{Action}
use Rattle.notebook_grammar.specs.declared.action.Action.TheVariants as act
use Rattle.notebook_grammar.specs.declared.action.ExprAction.{ExprAction}
use Rattle.notebook_grammar.specs.declared.action.ExprAction.TheVariants as e_act
use Rattle.notebook_grammar.specs.declared.action.ScriptAction.{ScriptAction}
use Rattle.notebook_grammar.specs.declared.action.ScriptAction.TheVariants as c_act
use Rattle.value_types.specs.declared.value.ColumnType.TheVariants as type
use Rattle.expr_lang.specs.declared.expr.Expr.TheVariants as expr
use Rattle.expr_parse.specs.declared.piece.Piece.TheVariants as piece
use Rattle.script_parse.specs.declared.stmt.Stmt.TheVariants as stmt
use Rattle.script_parse.specs.declared.stmt.Target.TheVariants as target
use Rattle.script_parse.specs.declared.piece.ScriptPiece.TheVariants as part
use Rattle.script_parse.specs.Trees.{builder}

abbrev took : ℕ → ℕ → Kind → Step Lexeme Action
took at end kind = Took (record { at = at; end = end; kind = kind; call = 0 })

abbrev did_expr : ExprAction → Step Lexeme Action
did_expr a = Did (act.Expr a)

abbrev did : ScriptAction → Step Lexeme Action
did a = Did (act.Script a)

-- a builder with its column, and what is written of it
declared : built (builder (codes "table t(A int);write t as u;"))
    (did c_act.BeginBuilders ∷ took 0 5 k.Table ∷ took 6 7 k.Name ∷ took 7 8 k.Open ∷ did c_act.BeginColumns
    ∷ took 8 9 k.Name ∷ took 10 13 k.TypeWord ∷ did c_act.Column ∷ took 13 14 k.Close ∷ took 14 15 k.Semicolon ∷ did c_act.Builder
    ∷ did c_act.BeginBlock ∷ took 15 20 k.Write ∷ took 21 22 k.Name ∷ took 23 25 k.As ∷ took 26 27 k.Name ∷ took 27 28 k.Semicolon ∷ did c_act.Write
    ∷ did c_act.Script ∷ []) []
    ≡ Some (piece.Other (part.Script (record {
      builders = record { name = codes "t"; columns = record { name = codes "a"; kind = type.Int } ∷ [] } ∷ [];
      body = stmt.Write (codes "t") (codes "u") ∷ [];
    })) ∷ [])
declared = refl

-- a loop over the rows of a dataset, with a block in it
nested : built (builder (codes "for r in t{x=r;}"))
    (did c_act.BeginBuilders ∷ did c_act.BeginBlock ∷ took 0 3 k.For ∷ took 4 5 k.Name ∷ took 6 8 k.In ∷ took 9 10 k.Name ∷ did c_act.Named
    ∷ took 10 11 k.OpenBrace ∷ did c_act.BeginBlock ∷ took 11 12 k.Name ∷ took 12 13 k.Equal
    ∷ did_expr e_act.Begin ∷ took 13 14 k.Name ∷ did_expr e_act.Bare ∷ did_expr e_act.End ∷ did c_act.Assign ∷ took 14 15 k.Semicolon
    ∷ took 15 16 k.CloseBrace ∷ did c_act.For ∷ did c_act.Script ∷ []) []
    ≡ Some (piece.Other (part.Script (record {
      builders = [];
      body = stmt.ForRows (codes "r") (target.Literal (codes "t")) (stmt.Assign (codes "x") (expr.Column None (codes "r")) ∷ []) ∷ [];
    })) ∷ [])
nested = refl
