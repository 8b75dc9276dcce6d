-- Each text that is an expression has a tree.
use Rattle.std.proofs.Common.{◌≡◌, ℕ, true, List, [], ◌∷◌, ◌++◌, map, Some, refl, ap, ◌∙◌, arith}
use Rattle.std.specs.declared.convert.Infallible.{Infallible}
use Rattle.ll1_grammar.specs.Pieces.{Shapes, KeepsShapes, built}
use Rattle.notebook_grammar.specs.declared.action.Action.{Action}
use Rattle.notebook_grammar.specs.declared.action.Action.TheVariants as act
use Rattle.notebook_grammar.specs.declared.action.ExprAction.{ExprAction}
use Rattle.notebook_grammar.specs.declared.start.Start.TheVariants as start
use Rattle.notebook_grammar.specs.Language.{Steps, kind_code}
use Rattle.notebook_grammar.specs.Effects.{shapes}
use Rattle.notebook_grammar.specs.Parts.{part_of}
use Rattle.notebook_grammar.specs.Texts.{AreSteps}
use Rattle.notebook_grammar.proofs.Fitting.{have_trees}
use Rattle.expr_lang.specs.declared.expr.Expr.{Expr}
use Rattle.expr_parse.specs.declared.piece.Piece.{Piece}
use Rattle.expr_parse.specs.declared.piece.Piece.TheVariants as piece
use Rattle.expr_parse.specs.Pieces.{shape}
use Rattle.expr_parse.specs.Trees.{builder, did_alone}
use Rattle.expr_parse.proofs.Shapes.{took_fine, did_fine}

-- there are no other pieces
abbrev none : Infallible → ℕ
none m = 9

keeps : (text : List ℕ) → KeepsShapes (part_of start.Expression) (builder text) shapes kind_code (shape none)
keeps text = record {
  took = λ l st. took_fine none text l st;
  did = λ a part st rest h. by_action a part st rest h;
}
  where
    by_action : (a : Action) → (part_of start.Expression).actions a ≡ true → (st : List (Piece Infallible)) (rest : Shapes) → map (shape none) st ≡ shapes.pops a ++ rest
        → (after : List (Piece Infallible)) × ((builder text).did a st ≡ Some after) × (map (shape none) after ≡ shapes.pushes a ++ rest)
    by_action (act.Expr a) part st rest h = did_fine none (λ m. omega arith) a st rest h
    by_action (act.Select a) part st rest h = cc
    by_action (act.Script a) part st rest h = cc

tree_is : (p : Piece Infallible) → shape none p ≡ 6 → (e : Expr) × (p ≡ piece.Tree e)
tree_is (piece.Tree e) h = (e, refl)
tree_is p h = cc

-- the steps of an expression build one tree
pub trees : (text : List ℕ) (steps : Steps) → AreSteps start.Expression text steps → (e : Expr) × (built (builder text) steps [] ≡ Some (piece.Tree e ∷ []))
trees text steps are =
    let one = have_trees start.Expression (builder text) (shape none) (keeps text) are.0 steps are.2.0 in
    let tree = tree_is one.0 one.2 in
    (tree.0, one.1 ∙ ap (λ p. Some (p ∷ [])) tree.1)

-- a text that is an expression has no actions of other languages
pub alone : (a : Action) (st after : List (Piece Infallible)) → did_alone a st ≡ Some after → (x : ExprAction) × (a ≡ act.Expr x)
alone (act.Expr x) st after h = (x, refl)
alone (act.Select x) st after h = cc
alone (act.Script x) st after h = cc
