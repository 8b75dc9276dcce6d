-- The pieces have the shapes that the grammar says.
use Rattle.std.proofs.Common.{◌≡◌, ℕ, ◌≤◌, Bool, false, List, [], ◌∷◌, ◌++◌, Option, Some, map, refl, sym, ap, ◌∙◌, subst, arith}
use Rattle.std.specs.Prelude.{◌==◌}
use Rattle.ll1_grammar.specs.Pieces.{Shapes}
use Rattle.notebook_grammar.specs.declared.action.SelectAction.{SelectAction}
use Rattle.notebook_grammar.specs.declared.action.SelectAction.TheVariants as act
use Rattle.notebook_grammar.specs.Effects.{select_pops, select_pushes}
use Rattle.expr_lang.specs.declared.expr.Expr.{Expr}
use Rattle.expr_parse.specs.declared.piece.Piece.TheVariants as piece
use Rattle.sql_parse.specs.declared.columns.ColumnName.{ColumnName}
use Rattle.sql_parse.specs.declared.columns.OrderKey.{OrderKey}
use Rattle.sql_parse.specs.declared.tables.TableRef.{TableRef}
use Rattle.sql_parse.specs.declared.tables.JoinPart.{JoinPart}
use Rattle.sql_parse.specs.declared.cores.CoreItems.{CoreItems}
use Rattle.sql_parse.specs.declared.cores.Core.{Core}
use Rattle.sql_parse.specs.declared.piece.SelectPiece.{SelectPiece}
use Rattle.sql_parse.specs.declared.piece.SelectPiece.TheVariants as part
use Rattle.expr_parse.specs.Pieces as expr
use Rattle.expr_parse.proofs.Shapes.{name_on, whole_on, tree_on}
use Rattle.sql_parse.specs.Pieces.{SelectStack, shape, did}

-- the shapes of pieces of expressions are others
pub far : (p : SelectPiece) → 9 ≤ shape p
far (part.Distinct d) = omega arith
far (part.Items is) = omega arith
far (part.Table t) = omega arith
far (part.Joins js) = omega arith
far (part.Condition c) = omega arith
far (part.Columns cs) = omega arith
far (part.Cores cs) = omega arith
far (part.Keys ks) = omega arith
far (part.Limit n) = omega arith
far (part.Select s) = omega arith

-- the shapes of pieces
abbrev shapes_of : SelectStack → Shapes
shapes_of st = map (expr.shape shape) st

heads : (x y : ℕ) (xs ys : Shapes) → x ∷ xs ≡ y ∷ ys → x ≡ y
heads x y xs ys h = cc

tails : (x y : ℕ) (xs ys : Shapes) → x ∷ xs ≡ y ∷ ys → xs ≡ ys
tails x y xs ys h = cc

-- numbers that compute to different ones
pub differ : (x y : ℕ) → (x == y) ≡ false → x ≡ y → ⊥
differ x y apart same = let one : (y == y) ≡ false = sym (ap (λ n. n == y) same) ∙ apart in grind (arith, one)

distinct_on : (st : SelectStack) (sh : Shapes) → shapes_of st ≡ 9 ∷ sh → (x : Bool) × (rest : SelectStack) × (st ≡ piece.Other (part.Distinct x) ∷ rest) × (shapes_of rest ≡ sh)
distinct_on [] sh h = cc
distinct_on (piece.Other (part.Distinct x) ∷ st) sh h = (x, st, refl, tails _ _ _ _ h)
distinct_on (p ∷ st) sh h = absurd (differ _ 9 refl (heads _ _ _ _ h))

items_on : (st : SelectStack) (sh : Shapes) → shapes_of st ≡ 10 ∷ sh → (x : CoreItems) × (rest : SelectStack) × (st ≡ piece.Other (part.Items x) ∷ rest) × (shapes_of rest ≡ sh)
items_on [] sh h = cc
items_on (piece.Other (part.Items x) ∷ st) sh h = (x, st, refl, tails _ _ _ _ h)
items_on (p ∷ st) sh h = absurd (differ _ 10 refl (heads _ _ _ _ h))

table_on : (st : SelectStack) (sh : Shapes) → shapes_of st ≡ 11 ∷ sh → (x : TableRef) × (rest : SelectStack) × (st ≡ piece.Other (part.Table x) ∷ rest) × (shapes_of rest ≡ sh)
table_on [] sh h = cc
table_on (piece.Other (part.Table x) ∷ st) sh h = (x, st, refl, tails _ _ _ _ h)
table_on (p ∷ st) sh h = absurd (differ _ 11 refl (heads _ _ _ _ h))

joins_on : (st : SelectStack) (sh : Shapes) → shapes_of st ≡ 12 ∷ sh → (x : List JoinPart) × (rest : SelectStack) × (st ≡ piece.Other (part.Joins x) ∷ rest) × (shapes_of rest ≡ sh)
joins_on [] sh h = cc
joins_on (piece.Other (part.Joins x) ∷ st) sh h = (x, st, refl, tails _ _ _ _ h)
joins_on (p ∷ st) sh h = absurd (differ _ 12 refl (heads _ _ _ _ h))

condition_on : (st : SelectStack) (sh : Shapes) → shapes_of st ≡ 13 ∷ sh → (x : Option Expr) × (rest : SelectStack) × (st ≡ piece.Other (part.Condition x) ∷ rest) × (shapes_of rest ≡ sh)
condition_on [] sh h = cc
condition_on (piece.Other (part.Condition x) ∷ st) sh h = (x, st, refl, tails _ _ _ _ h)
condition_on (p ∷ st) sh h = absurd (differ _ 13 refl (heads _ _ _ _ h))

columns_on : (st : SelectStack) (sh : Shapes) → shapes_of st ≡ 14 ∷ sh → (x : List ColumnName) × (rest : SelectStack) × (st ≡ piece.Other (part.Columns x) ∷ rest) × (shapes_of rest ≡ sh)
columns_on [] sh h = cc
columns_on (piece.Other (part.Columns x) ∷ st) sh h = (x, st, refl, tails _ _ _ _ h)
columns_on (p ∷ st) sh h = absurd (differ _ 14 refl (heads _ _ _ _ h))

cores_on : (st : SelectStack) (sh : Shapes) → shapes_of st ≡ 15 ∷ sh → (x : List Core) × (rest : SelectStack) × (st ≡ piece.Other (part.Cores x) ∷ rest) × (shapes_of rest ≡ sh)
cores_on [] sh h = cc
cores_on (piece.Other (part.Cores x) ∷ st) sh h = (x, st, refl, tails _ _ _ _ h)
cores_on (p ∷ st) sh h = absurd (differ _ 15 refl (heads _ _ _ _ h))

keys_on : (st : SelectStack) (sh : Shapes) → shapes_of st ≡ 16 ∷ sh → (x : List OrderKey) × (rest : SelectStack) × (st ≡ piece.Other (part.Keys x) ∷ rest) × (shapes_of rest ≡ sh)
keys_on [] sh h = cc
keys_on (piece.Other (part.Keys x) ∷ st) sh h = (x, st, refl, tails _ _ _ _ h)
keys_on (p ∷ st) sh h = absurd (differ _ 16 refl (heads _ _ _ _ h))

limit_on : (st : SelectStack) (sh : Shapes) → shapes_of st ≡ 17 ∷ sh → (x : Option ℕ) × (rest : SelectStack) × (st ≡ piece.Other (part.Limit x) ∷ rest) × (shapes_of rest ≡ sh)
limit_on [] sh h = cc
limit_on (piece.Other (part.Limit x) ∷ st) sh h = (x, st, refl, tails _ _ _ _ h)
limit_on (p ∷ st) sh h = absurd (differ _ 17 refl (heads _ _ _ _ h))

-- what is done to the pieces is done to equal ones
at : (f : SelectStack → Option SelectStack) (st top : SelectStack) (sh : Shapes) → st ≡ top
    → (after : SelectStack) × (f top ≡ Some after) × (shapes_of after ≡ sh) → (after : SelectStack) × (f st ≡ Some after) × (shapes_of after ≡ sh)
at f st top sh e d = subst (λ z. (after : SelectStack) × (f z ≡ Some after) × (shapes_of after ≡ sh)) (sym e) d

pub did_fine : (a : SelectAction) (st : SelectStack) (rest : Shapes) → shapes_of st ≡ select_pops a ++ rest
    → (after : SelectStack) × (did a st ≡ Some after) × (shapes_of after ≡ select_pushes a ++ rest)
did_fine act.BeginCores st rest h = (_, refl, ap (λ z. 15 ∷ z) h)
did_fine act.Select st rest h =
    let i0 = limit_on st (16 ∷ 15 ∷ rest) h in
    let i1 = keys_on i0.1 (15 ∷ rest) i0.3 in
    let i2 = cores_on i1.1 rest i1.3 in
    at (did act.Select) st _ (18 ∷ rest) (i0.2 ∙ ap (λ z. piece.Other (part.Limit i0.0) ∷ z) (i1.2 ∙ ap (λ z. piece.Other (part.Keys i1.0) ∷ z) i2.2)) (_, refl, ap (λ z. 18 ∷ z) i2.3)
did_fine act.BeginJoins st rest h = (_, refl, ap (λ z. 12 ∷ z) h)
did_fine act.Core st rest h =
    let i0 = condition_on st (14 ∷ 13 ∷ 12 ∷ 11 ∷ 10 ∷ 9 ∷ 15 ∷ rest) h in
    let i1 = columns_on i0.1 (13 ∷ 12 ∷ 11 ∷ 10 ∷ 9 ∷ 15 ∷ rest) i0.3 in
    let i2 = condition_on i1.1 (12 ∷ 11 ∷ 10 ∷ 9 ∷ 15 ∷ rest) i1.3 in
    let i3 = joins_on i2.1 (11 ∷ 10 ∷ 9 ∷ 15 ∷ rest) i2.3 in
    let i4 = table_on i3.1 (10 ∷ 9 ∷ 15 ∷ rest) i3.3 in
    let i5 = items_on i4.1 (9 ∷ 15 ∷ rest) i4.3 in
    let i6 = distinct_on i5.1 (15 ∷ rest) i5.3 in
    let i7 = cores_on i6.1 rest i6.3 in
    at (did act.Core) st _ (15 ∷ rest) (i0.2 ∙ ap (λ z. piece.Other (part.Condition i0.0) ∷ z) (i1.2 ∙ ap (λ z. piece.Other (part.Columns i1.0) ∷ z) (i2.2 ∙ ap (λ z. piece.Other (part.Condition i2.0) ∷ z) (i3.2 ∙ ap (λ z. piece.Other (part.Joins i3.0) ∷ z) (i4.2 ∙ ap (λ z. piece.Other (part.Table i4.0) ∷ z) (i5.2 ∙ ap (λ z. piece.Other (part.Items i5.0) ∷ z) (i6.2 ∙ ap (λ z. piece.Other (part.Distinct i6.0) ∷ z) i7.2))))))) (_, refl, ap (λ z. 15 ∷ z) i7.3)
did_fine act.Distinct st rest h = (_, refl, ap (λ z. 9 ∷ z) h)
did_fine act.NotDistinct st rest h = (_, refl, ap (λ z. 9 ∷ z) h)
did_fine act.AllItems st rest h = (_, refl, ap (λ z. 10 ∷ z) h)
did_fine act.BeginItems st rest h = (_, refl, ap (λ z. 10 ∷ z) h)
did_fine act.NamedItem st rest h =
    let i0 = name_on shape far st (6 ∷ 10 ∷ rest) h in
    let i1 = tree_on shape far i0.1 (10 ∷ rest) i0.3 in
    let i2 = items_on i1.1 rest i1.3 in
    at (did act.NamedItem) st _ (10 ∷ rest) (i0.2 ∙ ap (λ z. piece.Name i0.0 ∷ z) (i1.2 ∙ ap (λ z. piece.Tree i1.0 ∷ z) i2.2)) (_, refl, ap (λ z. 10 ∷ z) i2.3)
did_fine act.PlainItem st rest h =
    let i0 = tree_on shape far st (10 ∷ rest) h in
    let i1 = items_on i0.1 rest i0.3 in
    at (did act.PlainItem) st _ (10 ∷ rest) (i0.2 ∙ ap (λ z. piece.Tree i0.0 ∷ z) i1.2) (_, refl, ap (λ z. 10 ∷ z) i1.3)
did_fine act.NamedTable st rest h =
    let i0 = name_on shape far st (0 ∷ rest) h in
    let i1 = name_on shape far i0.1 rest i0.3 in
    at (did act.NamedTable) st _ (11 ∷ rest) (i0.2 ∙ ap (λ z. piece.Name i0.0 ∷ z) i1.2) (_, refl, ap (λ z. 11 ∷ z) i1.3)
did_fine act.PlainTable st rest h =
    let i0 = name_on shape far st rest h in
    at (did act.PlainTable) st _ (11 ∷ rest) i0.2 (_, refl, ap (λ z. 11 ∷ z) i0.3)
did_fine act.InnerJoin st rest h =
    let i0 = tree_on shape far st (11 ∷ 12 ∷ rest) h in
    let i1 = table_on i0.1 (12 ∷ rest) i0.3 in
    let i2 = joins_on i1.1 rest i1.3 in
    at (did act.InnerJoin) st _ (12 ∷ rest) (i0.2 ∙ ap (λ z. piece.Tree i0.0 ∷ z) (i1.2 ∙ ap (λ z. piece.Other (part.Table i1.0) ∷ z) i2.2)) (_, refl, ap (λ z. 12 ∷ z) i2.3)
did_fine act.LeftJoin st rest h =
    let i0 = tree_on shape far st (11 ∷ 12 ∷ rest) h in
    let i1 = table_on i0.1 (12 ∷ rest) i0.3 in
    let i2 = joins_on i1.1 rest i1.3 in
    at (did act.LeftJoin) st _ (12 ∷ rest) (i0.2 ∙ ap (λ z. piece.Tree i0.0 ∷ z) (i1.2 ∙ ap (λ z. piece.Other (part.Table i1.0) ∷ z) i2.2)) (_, refl, ap (λ z. 12 ∷ z) i2.3)
did_fine act.Condition st rest h =
    let i0 = tree_on shape far st rest h in
    at (did act.Condition) st _ (13 ∷ rest) i0.2 (_, refl, ap (λ z. 13 ∷ z) i0.3)
did_fine act.NoCondition st rest h = (_, refl, ap (λ z. 13 ∷ z) h)
did_fine act.BeginColumns st rest h = (_, refl, ap (λ z. 14 ∷ z) h)
did_fine act.QualifiedColumn st rest h =
    let i0 = name_on shape far st (0 ∷ 14 ∷ rest) h in
    let i1 = name_on shape far i0.1 (14 ∷ rest) i0.3 in
    let i2 = columns_on i1.1 rest i1.3 in
    at (did act.QualifiedColumn) st _ (14 ∷ rest) (i0.2 ∙ ap (λ z. piece.Name i0.0 ∷ z) (i1.2 ∙ ap (λ z. piece.Name i1.0 ∷ z) i2.2)) (_, refl, ap (λ z. 14 ∷ z) i2.3)
did_fine act.BareColumn st rest h =
    let i0 = name_on shape far st (14 ∷ rest) h in
    let i1 = columns_on i0.1 rest i0.3 in
    at (did act.BareColumn) st _ (14 ∷ rest) (i0.2 ∙ ap (λ z. piece.Name i0.0 ∷ z) i1.2) (_, refl, ap (λ z. 14 ∷ z) i1.3)
did_fine act.BeginKeys st rest h = (_, refl, ap (λ z. 16 ∷ z) h)
did_fine act.Ascending st rest h =
    let i0 = name_on shape far st (16 ∷ rest) h in
    let i1 = keys_on i0.1 rest i0.3 in
    at (did act.Ascending) st _ (16 ∷ rest) (i0.2 ∙ ap (λ z. piece.Name i0.0 ∷ z) i1.2) (_, refl, ap (λ z. 16 ∷ z) i1.3)
did_fine act.Descending st rest h =
    let i0 = name_on shape far st (16 ∷ rest) h in
    let i1 = keys_on i0.1 rest i0.3 in
    at (did act.Descending) st _ (16 ∷ rest) (i0.2 ∙ ap (λ z. piece.Name i0.0 ∷ z) i1.2) (_, refl, ap (λ z. 16 ∷ z) i1.3)
did_fine act.Limit st rest h =
    let i0 = whole_on shape far st rest h in
    at (did act.Limit) st _ (17 ∷ rest) i0.2 (_, refl, ap (λ z. 17 ∷ z) i0.3)
did_fine act.NoLimit st rest h = (_, refl, ap (λ z. 17 ∷ z) h)
