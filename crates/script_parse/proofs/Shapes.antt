-- The pieces have the shapes that the grammar says.
use Rattle.std.proofs.Common.{◌≡◌, ℕ, ◌≤◌, false, List, [], ◌∷◌, ◌++◌, Option, Some, map, refl, sym, ap, ◌∙◌, subst, arith}
use Rattle.std.specs.Prelude.{◌==◌}
use Rattle.ll1_grammar.specs.Pieces.{Shapes}
use Rattle.notebook_grammar.specs.declared.action.ScriptAction.{ScriptAction}
use Rattle.notebook_grammar.specs.declared.action.ScriptAction.TheVariants as act
use Rattle.notebook_grammar.specs.Effects.{script_pops, script_pushes}
use Rattle.expr_parse.specs.declared.piece.Piece.TheVariants as piece
use Rattle.dataset_types.specs.declared.column.Column.{Column}
use Rattle.script_parse.specs.declared.stmt.Stmt.{Stmt}
use Rattle.script_parse.specs.declared.script.Builder.{Builder}
use Rattle.script_parse.specs.declared.piece.LoopPart.{LoopPart}
use Rattle.script_parse.specs.declared.piece.ScriptPiece.{ScriptPiece}
use Rattle.script_parse.specs.declared.piece.ScriptPiece.TheVariants as part
use Rattle.expr_parse.specs.Pieces as expr
use Rattle.expr_parse.proofs.Shapes.{name_on, type_on, tree_on, list_on}
use Rattle.script_parse.specs.Pieces.{ScriptStack, shape, did}

-- the shapes of pieces of expressions are others
pub far : (p : ScriptPiece) → 9 ≤ shape p
far (part.Builders bs) = omega arith
far (part.Definitions cs) = omega arith
far (part.Block b) = omega arith
far (part.Loop l) = omega arith
far (part.Script s) = omega arith

-- the shapes of pieces
abbrev shapes_of : ScriptStack → Shapes
shapes_of st = map (expr.shape shape) st

heads : (x y : ℕ) (xs ys : Shapes) → x ∷ xs ≡ y ∷ ys → x ≡ y
heads x y xs ys h = cc

tails : (x y : ℕ) (xs ys : Shapes) → x ∷ xs ≡ y ∷ ys → xs ≡ ys
tails x y xs ys h = cc

-- numbers that compute to different ones
pub differ : (x y : ℕ) → (x == y) ≡ false → x ≡ y → ⊥
differ x y apart same = let one : (y == y) ≡ false = sym (ap (λ n. n == y) same) ∙ apart in grind (arith, one)

builders_on : (st : ScriptStack) (sh : Shapes) → shapes_of st ≡ 19 ∷ sh → (x : List Builder) × (rest : ScriptStack) × (st ≡ piece.Other (part.Builders x) ∷ rest) × (shapes_of rest ≡ sh)
builders_on [] sh h = cc
builders_on (piece.Other (part.Builders x) ∷ st) sh h = (x, st, refl, tails _ _ _ _ h)
builders_on (p ∷ st) sh h = absurd (differ _ 19 refl (heads _ _ _ _ h))

definitions_on : (st : ScriptStack) (sh : Shapes) → shapes_of st ≡ 20 ∷ sh → (x : List Column) × (rest : ScriptStack) × (st ≡ piece.Other (part.Definitions x) ∷ rest) × (shapes_of rest ≡ sh)
definitions_on [] sh h = cc
definitions_on (piece.Other (part.Definitions x) ∷ st) sh h = (x, st, refl, tails _ _ _ _ h)
definitions_on (p ∷ st) sh h = absurd (differ _ 20 refl (heads _ _ _ _ h))

block_on : (st : ScriptStack) (sh : Shapes) → shapes_of st ≡ 21 ∷ sh → (x : List Stmt) × (rest : ScriptStack) × (st ≡ piece.Other (part.Block x) ∷ rest) × (shapes_of rest ≡ sh)
block_on [] sh h = cc
block_on (piece.Other (part.Block x) ∷ st) sh h = (x, st, refl, tails _ _ _ _ h)
block_on (p ∷ st) sh h = absurd (differ _ 21 refl (heads _ _ _ _ h))

loop_on : (st : ScriptStack) (sh : Shapes) → shapes_of st ≡ 22 ∷ sh → (x : LoopPart) × (rest : ScriptStack) × (st ≡ piece.Other (part.Loop x) ∷ rest) × (shapes_of rest ≡ sh)
loop_on [] sh h = cc
loop_on (piece.Other (part.Loop x) ∷ st) sh h = (x, st, refl, tails _ _ _ _ h)
loop_on (p ∷ st) sh h = absurd (differ _ 22 refl (heads _ _ _ _ h))

-- what is done to the pieces is done to equal ones
at : (f : ScriptStack → Option ScriptStack) (st top : ScriptStack) (sh : Shapes) → st ≡ top
    → (after : ScriptStack) × (f top ≡ Some after) × (shapes_of after ≡ sh) → (after : ScriptStack) × (f st ≡ Some after) × (shapes_of after ≡ sh)
at f st top sh e d = subst (λ z. (after : ScriptStack) × (f z ≡ Some after) × (shapes_of after ≡ sh)) (sym e) d

pub did_fine : (a : ScriptAction) (st : ScriptStack) (rest : Shapes) → shapes_of st ≡ script_pops a ++ rest
    → (after : ScriptStack) × (did a st ≡ Some after) × (shapes_of after ≡ script_pushes a ++ rest)
did_fine act.BeginBuilders st rest h = (_, refl, ap (λ z. 19 ∷ z) h)
did_fine act.BeginBlock st rest h = (_, refl, ap (λ z. 21 ∷ z) h)
did_fine act.Script st rest h =
    let i0 = block_on st (19 ∷ rest) h in
    let i1 = builders_on i0.1 rest i0.3 in
    at (did act.Script) st _ (23 ∷ rest) (i0.2 ∙ ap (λ z. piece.Other (part.Block i0.0) ∷ z) i1.2) (_, refl, ap (λ z. 23 ∷ z) i1.3)
did_fine act.BeginColumns st rest h = (_, refl, ap (λ z. 20 ∷ z) h)
did_fine act.Builder st rest h =
    let i0 = definitions_on st (0 ∷ 19 ∷ rest) h in
    let i1 = name_on shape far i0.1 (19 ∷ rest) i0.3 in
    let i2 = builders_on i1.1 rest i1.3 in
    at (did act.Builder) st _ (19 ∷ rest) (i0.2 ∙ ap (λ z. piece.Other (part.Definitions i0.0) ∷ z) (i1.2 ∙ ap (λ z. piece.Name i1.0 ∷ z) i2.2)) (_, refl, ap (λ z. 19 ∷ z) i2.3)
did_fine act.Column st rest h =
    let i0 = type_on shape far st (0 ∷ 20 ∷ rest) h in
    let i1 = name_on shape far i0.1 (20 ∷ rest) i0.3 in
    let i2 = definitions_on i1.1 rest i1.3 in
    at (did act.Column) st _ (20 ∷ rest) (i0.2 ∙ ap (λ z. piece.TypeWord i0.0 ∷ z) (i1.2 ∙ ap (λ z. piece.Name i1.0 ∷ z) i2.2)) (_, refl, ap (λ z. 20 ∷ z) i2.3)
did_fine act.Print st rest h =
    let i0 = tree_on shape far st (21 ∷ rest) h in
    let i1 = block_on i0.1 rest i0.3 in
    at (did act.Print) st _ (21 ∷ rest) (i0.2 ∙ ap (λ z. piece.Tree i0.0 ∷ z) i1.2) (_, refl, ap (λ z. 21 ∷ z) i1.3)
did_fine act.While st rest h =
    let i0 = block_on st (6 ∷ 21 ∷ rest) h in
    let i1 = tree_on shape far i0.1 (21 ∷ rest) i0.3 in
    let i2 = block_on i1.1 rest i1.3 in
    at (did act.While) st _ (21 ∷ rest) (i0.2 ∙ ap (λ z. piece.Other (part.Block i0.0) ∷ z) (i1.2 ∙ ap (λ z. piece.Tree i1.0 ∷ z) i2.2)) (_, refl, ap (λ z. 21 ∷ z) i2.3)
did_fine act.For st rest h =
    let i0 = block_on st (22 ∷ 0 ∷ 21 ∷ rest) h in
    let i1 = loop_on i0.1 (0 ∷ 21 ∷ rest) i0.3 in
    let i2 = name_on shape far i1.1 (21 ∷ rest) i1.3 in
    let i3 = block_on i2.1 rest i2.3 in
    at (did act.For) st _ (21 ∷ rest) (i0.2 ∙ ap (λ z. piece.Other (part.Block i0.0) ∷ z) (i1.2 ∙ ap (λ z. piece.Other (part.Loop i1.0) ∷ z) (i2.2 ∙ ap (λ z. piece.Name i2.0 ∷ z) i3.2))) (_, refl, ap (λ z. 21 ∷ z) i3.3)
did_fine act.Emit st rest h =
    let i0 = list_on shape far st (0 ∷ 21 ∷ rest) h in
    let i1 = name_on shape far i0.1 (21 ∷ rest) i0.3 in
    let i2 = block_on i1.1 rest i1.3 in
    at (did act.Emit) st _ (21 ∷ rest) (i0.2 ∙ ap (λ z. piece.List i0.0 ∷ z) (i1.2 ∙ ap (λ z. piece.Name i1.0 ∷ z) i2.2)) (_, refl, ap (λ z. 21 ∷ z) i2.3)
did_fine act.Write st rest h =
    let i0 = name_on shape far st (0 ∷ 21 ∷ rest) h in
    let i1 = name_on shape far i0.1 (21 ∷ rest) i0.3 in
    let i2 = block_on i1.1 rest i1.3 in
    at (did act.Write) st _ (21 ∷ rest) (i0.2 ∙ ap (λ z. piece.Name i0.0 ∷ z) (i1.2 ∙ ap (λ z. piece.Name i1.0 ∷ z) i2.2)) (_, refl, ap (λ z. 21 ∷ z) i2.3)
did_fine act.Drop st rest h =
    let i0 = name_on shape far st (21 ∷ rest) h in
    let i1 = block_on i0.1 rest i0.3 in
    at (did act.Drop) st _ (21 ∷ rest) (i0.2 ∙ ap (λ z. piece.Name i0.0 ∷ z) i1.2) (_, refl, ap (λ z. 21 ∷ z) i1.3)
did_fine act.Exists st rest h =
    let i0 = tree_on shape far st (0 ∷ 21 ∷ rest) h in
    let i1 = name_on shape far i0.1 (21 ∷ rest) i0.3 in
    let i2 = block_on i1.1 rest i1.3 in
    at (did act.Exists) st _ (21 ∷ rest) (i0.2 ∙ ap (λ z. piece.Tree i0.0 ∷ z) (i1.2 ∙ ap (λ z. piece.Name i1.0 ∷ z) i2.2)) (_, refl, ap (λ z. 21 ∷ z) i2.3)
did_fine act.Rows st rest h =
    let i0 = tree_on shape far st (0 ∷ 21 ∷ rest) h in
    let i1 = name_on shape far i0.1 (21 ∷ rest) i0.3 in
    let i2 = block_on i1.1 rest i1.3 in
    at (did act.Rows) st _ (21 ∷ rest) (i0.2 ∙ ap (λ z. piece.Tree i0.0 ∷ z) (i1.2 ∙ ap (λ z. piece.Name i1.0 ∷ z) i2.2)) (_, refl, ap (λ z. 21 ∷ z) i2.3)
did_fine act.Assign st rest h =
    let i0 = tree_on shape far st (0 ∷ 21 ∷ rest) h in
    let i1 = name_on shape far i0.1 (21 ∷ rest) i0.3 in
    let i2 = block_on i1.1 rest i1.3 in
    at (did act.Assign) st _ (21 ∷ rest) (i0.2 ∙ ap (λ z. piece.Tree i0.0 ∷ z) (i1.2 ∙ ap (λ z. piece.Name i1.0 ∷ z) i2.2)) (_, refl, ap (λ z. 21 ∷ z) i2.3)
did_fine act.IfElse st rest h =
    let i0 = block_on st (21 ∷ 6 ∷ 21 ∷ rest) h in
    let i1 = block_on i0.1 (6 ∷ 21 ∷ rest) i0.3 in
    let i2 = tree_on shape far i1.1 (21 ∷ rest) i1.3 in
    let i3 = block_on i2.1 rest i2.3 in
    at (did act.IfElse) st _ (21 ∷ rest) (i0.2 ∙ ap (λ z. piece.Other (part.Block i0.0) ∷ z) (i1.2 ∙ ap (λ z. piece.Other (part.Block i1.0) ∷ z) (i2.2 ∙ ap (λ z. piece.Tree i2.0 ∷ z) i3.2))) (_, refl, ap (λ z. 21 ∷ z) i3.3)
did_fine act.If st rest h =
    let i0 = block_on st (6 ∷ 21 ∷ rest) h in
    let i1 = tree_on shape far i0.1 (21 ∷ rest) i0.3 in
    let i2 = block_on i1.1 rest i1.3 in
    at (did act.If) st _ (21 ∷ rest) (i0.2 ∙ ap (λ z. piece.Other (part.Block i0.0) ∷ z) (i1.2 ∙ ap (λ z. piece.Tree i1.0 ∷ z) i2.2)) (_, refl, ap (λ z. 21 ∷ z) i2.3)
did_fine act.Range st rest h =
    let i0 = tree_on shape far st (6 ∷ rest) h in
    let i1 = tree_on shape far i0.1 rest i0.3 in
    at (did act.Range) st _ (22 ∷ rest) (i0.2 ∙ ap (λ z. piece.Tree i0.0 ∷ z) i1.2) (_, refl, ap (λ z. 22 ∷ z) i1.3)
did_fine act.Named st rest h =
    let i0 = name_on shape far st rest h in
    at (did act.Named) st _ (22 ∷ rest) i0.2 (_, refl, ap (λ z. 22 ∷ z) i0.3)
did_fine act.Computed st rest h =
    let i0 = tree_on shape far st rest h in
    at (did act.Computed) st _ (22 ∷ rest) i0.2 (_, refl, ap (λ z. 22 ∷ z) i0.3)
