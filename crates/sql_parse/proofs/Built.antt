-- Each text that is a SELECT has a tree.
use Rattle.std.proofs.Common.{◌≡◌, ℕ, true, List, [], ◌∷◌, ◌++◌, map, Some, refl, ap, ◌∙◌}
use Rattle.ll1_grammar.specs.Pieces.{Shapes, KeepsShapes, built}
use Rattle.notebook_grammar.specs.declared.action.Action.{Action}
use Rattle.notebook_grammar.specs.declared.action.Action.TheVariants as act
use Rattle.notebook_grammar.specs.declared.action.ScriptAction.{ScriptAction}
use Rattle.notebook_grammar.specs.declared.start.Start.TheVariants as start
use Rattle.notebook_grammar.specs.Language.{Steps, kind_code}
use Rattle.notebook_grammar.specs.Effects.{shapes}
use Rattle.notebook_grammar.specs.Parts.{part_of}
use Rattle.notebook_grammar.specs.Texts.{AreSteps}
use Rattle.notebook_grammar.proofs.Fitting.{have_trees}
use Rattle.expr_parse.specs.declared.piece.Piece.{Piece}
use Rattle.expr_parse.specs.declared.piece.Piece.TheVariants as piece
use Rattle.expr_parse.specs.Pieces as expr
use Rattle.expr_parse.proofs.Shapes as of_expr
use Rattle.sql_parse.specs.declared.select.Select.{Select}
use Rattle.sql_parse.specs.declared.piece.SelectPiece.{SelectPiece}
use Rattle.sql_parse.specs.declared.piece.SelectPiece.TheVariants as part
use Rattle.sql_parse.specs.Pieces.{SelectStack, shape}
use Rattle.sql_parse.specs.Trees.{builder, did_either}
use Rattle.sql_parse.proofs.Shapes.{far, differ, did_fine}

keeps : (text : List ℕ) → KeepsShapes (part_of start.Select) (builder text) shapes kind_code (expr.shape shape)
keeps text = record {
  took = λ l st. of_expr.took_fine shape text l st;
  did = λ a part st rest h. by_action a part st rest h;
}
  where
    by_action : (a : Action) → (part_of start.Select).actions a ≡ true → (st : SelectStack) (rest : Shapes) → map (expr.shape shape) st ≡ shapes.pops a ++ rest
        → (after : SelectStack) × ((builder text).did a st ≡ Some after) × (map (expr.shape shape) after ≡ shapes.pushes a ++ rest)
    by_action (act.Expr a) part st rest h = of_expr.did_fine shape far a st rest h
    by_action (act.Select a) part st rest h = did_fine a st rest h
    by_action (act.Script a) part st rest h = cc

select_is : (p : Piece SelectPiece) → expr.shape shape p ≡ 18 → (s : Select) × (p ≡ piece.Other (part.Select s))
select_is (piece.Other (part.Select s)) h = (s, refl)
select_is p h = absurd (differ _ 18 refl h)

-- the steps of a SELECT build one tree
pub trees : (text : List ℕ) (steps : Steps) → AreSteps start.Select text steps → (s : Select) × (built (builder text) steps [] ≡ Some (piece.Other (part.Select s) ∷ []))
trees text steps are =
    let one = have_trees start.Select (builder text) (expr.shape shape) (keeps text) are.0 steps are.2.0 in
    let select = select_is one.0 one.2 in
    (select.0, one.1 ∙ ap (λ p. Some (p ∷ [])) select.1)

-- a text that is a SELECT has no actions of scripts
pub no_script : (a : ScriptAction) (st after : SelectStack) → did_either (act.Script a) st ≡ Some after → ⊥
no_script a st after h = cc
