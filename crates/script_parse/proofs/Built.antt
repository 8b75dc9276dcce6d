-- Each text that is a script has a tree.
use Rattle.std.proofs.Common.{◌≡◌, ℕ, true, List, [], ◌∷◌, ◌++◌, map, Some, refl, ap, ◌∙◌}
use Rattle.ll1_grammar.specs.Pieces.{Shapes, KeepsShapes, built}
use Rattle.notebook_grammar.specs.declared.action.Action.{Action}
use Rattle.notebook_grammar.specs.declared.action.Action.TheVariants as act
use Rattle.notebook_grammar.specs.declared.action.SelectAction.{SelectAction}
use Rattle.notebook_grammar.specs.declared.start.Start.TheVariants as start
use Rattle.notebook_grammar.specs.Language.{Steps, kind_code}
use Rattle.notebook_grammar.specs.Effects.{shapes}
use Rattle.notebook_grammar.specs.Parts.{part_of}
use Rattle.notebook_grammar.specs.Texts.{AreSteps}
use Rattle.notebook_grammar.proofs.Fitting.{have_trees}
use Rattle.expr_parse.specs.declared.piece.Piece.{Piece}
use Rattle.expr_parse.specs.declared.piece.Piece.TheVariants as piece
use Rattle.expr_parse.specs.Pieces as expr
use Rattle.expr_parse.proofs.Shapes as of_expr
use Rattle.script_parse.specs.declared.script.Script.{Script}
use Rattle.script_parse.specs.declared.piece.ScriptPiece.{ScriptPiece}
use Rattle.script_parse.specs.declared.piece.ScriptPiece.TheVariants as part
use Rattle.script_parse.specs.Pieces.{ScriptStack, shape}
use Rattle.script_parse.specs.Trees.{builder, did_either}
use Rattle.script_parse.proofs.Shapes.{far, differ, did_fine}

keeps : (text : List ℕ) → KeepsShapes (part_of start.Script) (builder text) shapes kind_code (expr.shape shape)
keeps text = record {
  took = λ l st. of_expr.took_fine shape text l st;
  did = λ a part st rest h. by_action a part st rest h;
}
  where
    by_action : (a : Action) → (part_of start.Script).actions a ≡ true → (st : ScriptStack) (rest : Shapes) → map (expr.shape shape) st ≡ shapes.pops a ++ rest
        → (after : ScriptStack) × ((builder text).did a st ≡ Some after) × (map (expr.shape shape) after ≡ shapes.pushes a ++ rest)
    by_action (act.Expr a) part st rest h = of_expr.did_fine shape far a st rest h
    by_action (act.Select a) part st rest h = cc
    by_action (act.Script a) part st rest h = did_fine a st rest h

script_is : (p : Piece ScriptPiece) → expr.shape shape p ≡ 23 → (s : Script) × (p ≡ piece.Other (part.Script s))
script_is (piece.Other (part.Script s)) h = (s, refl)
script_is p h = absurd (differ _ 23 refl h)

-- the steps of a script build one tree
pub trees : (text : List ℕ) (steps : Steps) → AreSteps start.Script text steps → (s : Script) × (built (builder text) steps [] ≡ Some (piece.Other (part.Script s) ∷ []))
trees text steps are =
    let one = have_trees start.Script (builder text) (expr.shape shape) (keeps text) are.0 steps are.2.0 in
    let script = script_is one.0 one.2 in
    (script.0, one.1 ∙ ap (λ p. Some (p ∷ [])) script.1)

-- a text that is a script has no actions of SELECT
pub no_select : (a : SelectAction) (st after : ScriptStack) → did_either (act.Select a) st ≡ Some after → ⊥
no_select a st after h = cc
