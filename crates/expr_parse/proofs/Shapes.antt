-- The pieces have the shapes that the grammar says, whatever the language around has.
use Rattle.std.proofs.Common.{◌≡◌, ℕ, ◌≤◌, List, [], ◌∷◌, ◌++◌, Option, Some, map, refl, sym, ap, ◌∙◌, subst, arith}
use Rattle.std.specs.Prelude.{ℤ}
use Rattle.value_types.specs.declared.value.ColumnType.{ColumnType}
use Rattle.ll1_grammar.specs.Pieces.{Shapes}
use Rattle.notebook_grammar.specs.declared.kind.Kind.{Kind}
use Rattle.notebook_grammar.specs.declared.kind.Kind.TheVariants as k
use Rattle.notebook_grammar.specs.declared.lexeme.Lexeme.{Lexeme}
use Rattle.notebook_grammar.specs.declared.action.ExprAction.{ExprAction}
use Rattle.notebook_grammar.specs.declared.action.ExprAction.TheVariants as act
use Rattle.notebook_grammar.specs.Kinds.{code_of}
use Rattle.notebook_grammar.specs.Language.{kind_code}
use Rattle.notebook_grammar.specs.Shapes.{token}
use Rattle.notebook_grammar.specs.Effects.{expr_pops, expr_pushes}
use Rattle.expr_lang.specs.declared.expr.Expr.{Expr}
use Rattle.expr_lang.specs.declared.expr.Arm.{Arm}
use Rattle.expr_parse.specs.declared.piece.Piece.TheVariants as piece
use Rattle.expr_parse.specs.Values.{token_text, value_of}
use Rattle.expr_parse.specs.Pieces.{Stack, did, put, took, shape}

-- a token puts down what the grammar says
pub took_fine : {M : Type 0} (other : M → ℕ) (text : List ℕ) (l : Lexeme) (st : Stack M) → map (shape other) (took text l st) ≡ token (kind_code l) ++ map (shape other) st
took_fine other text l st = by_kind l.kind
  where
    by_kind : (kind : Kind) → map (shape other) (put (value_of kind (token_text text l) l.call) st) ≡ token (code_of kind) ++ map (shape other) st
    by_kind k.Name = refl
    by_kind kind = refl

module _ {M : Type 0} (other : M → ℕ) (far : (m : M) → 9 ≤ other m) where
  -- the pieces are there, and have these shapes
  abbrev Done : Option (Stack M) → Shapes → Type 0
  Done o sh = (after : Stack M) × (o ≡ Some after) × (map (shape other) after ≡ sh)

  pub name_on : (st : Stack M) (sh : Shapes) → map (shape other) st ≡ 0 ∷ sh → (x : List ℕ) × (rest : Stack M) × (st ≡ piece.Name x ∷ rest) × (map (shape other) rest ≡ sh)
  name_on [] sh h = cc
  name_on (piece.Name x ∷ st) sh h = (x, st, refl, cc)
  name_on (piece.Other m ∷ st) sh h = absurd (let high = far m in let same : other m ≡ 0 = cc in omega (arith, high, same))
  name_on (p ∷ st) sh h = cc

  pub type_on : (st : Stack M) (sh : Shapes) → map (shape other) st ≡ 1 ∷ sh → (x : ColumnType) × (rest : Stack M) × (st ≡ piece.TypeWord x ∷ rest) × (map (shape other) rest ≡ sh)
  type_on [] sh h = cc
  type_on (piece.TypeWord x ∷ st) sh h = (x, st, refl, cc)
  type_on (piece.Other m ∷ st) sh h = absurd (let high = far m in let same : other m ≡ 1 = cc in omega (arith, high, same))
  type_on (p ∷ st) sh h = cc

  pub whole_on : (st : Stack M) (sh : Shapes) → map (shape other) st ≡ 2 ∷ sh → (x : ℤ) × (rest : Stack M) × (st ≡ piece.Whole x ∷ rest) × (map (shape other) rest ≡ sh)
  whole_on [] sh h = cc
  whole_on (piece.Whole x ∷ st) sh h = (x, st, refl, cc)
  whole_on (piece.Other m ∷ st) sh h = absurd (let high = far m in let same : other m ≡ 2 = cc in omega (arith, high, same))
  whole_on (p ∷ st) sh h = cc

  decimal_on : (st : Stack M) (sh : Shapes) → map (shape other) st ≡ 3 ∷ sh → (x : ℤ) × (rest : Stack M) × (st ≡ piece.Decimal x ∷ rest) × (map (shape other) rest ≡ sh)
  decimal_on [] sh h = cc
  decimal_on (piece.Decimal x ∷ st) sh h = (x, st, refl, cc)
  decimal_on (piece.Other m ∷ st) sh h = absurd (let high = far m in let same : other m ≡ 3 = cc in omega (arith, high, same))
  decimal_on (p ∷ st) sh h = cc

  quoted_on : (st : Stack M) (sh : Shapes) → map (shape other) st ≡ 4 ∷ sh → (x : List ℕ) × (rest : Stack M) × (st ≡ piece.Quoted x ∷ rest) × (map (shape other) rest ≡ sh)
  quoted_on [] sh h = cc
  quoted_on (piece.Quoted x ∷ st) sh h = (x, st, refl, cc)
  quoted_on (piece.Other m ∷ st) sh h = absurd (let high = far m in let same : other m ≡ 4 = cc in omega (arith, high, same))
  quoted_on (p ∷ st) sh h = cc

  call_on : (st : Stack M) (sh : Shapes) → map (shape other) st ≡ 5 ∷ sh → (x : ℕ) × (rest : Stack M) × (st ≡ piece.Call x ∷ rest) × (map (shape other) rest ≡ sh)
  call_on [] sh h = cc
  call_on (piece.Call x ∷ st) sh h = (x, st, refl, cc)
  call_on (piece.Other m ∷ st) sh h = absurd (let high = far m in let same : other m ≡ 5 = cc in omega (arith, high, same))
  call_on (p ∷ st) sh h = cc

  pub tree_on : (st : Stack M) (sh : Shapes) → map (shape other) st ≡ 6 ∷ sh → (x : Expr) × (rest : Stack M) × (st ≡ piece.Tree x ∷ rest) × (map (shape other) rest ≡ sh)
  tree_on [] sh h = cc
  tree_on (piece.Tree x ∷ st) sh h = (x, st, refl, cc)
  tree_on (piece.Other m ∷ st) sh h = absurd (let high = far m in let same : other m ≡ 6 = cc in omega (arith, high, same))
  tree_on (p ∷ st) sh h = cc

  pub list_on : (st : Stack M) (sh : Shapes) → map (shape other) st ≡ 7 ∷ sh → (x : List Expr) × (rest : Stack M) × (st ≡ piece.List x ∷ rest) × (map (shape other) rest ≡ sh)
  list_on [] sh h = cc
  list_on (piece.List x ∷ st) sh h = (x, st, refl, cc)
  list_on (piece.Other m ∷ st) sh h = absurd (let high = far m in let same : other m ≡ 7 = cc in omega (arith, high, same))
  list_on (p ∷ st) sh h = cc

  arms_on : (st : Stack M) (sh : Shapes) → map (shape other) st ≡ 8 ∷ sh → (x : List Arm) × (rest : Stack M) × (st ≡ piece.Arms x ∷ rest) × (map (shape other) rest ≡ sh)
  arms_on [] sh h = cc
  arms_on (piece.Arms x ∷ st) sh h = (x, st, refl, cc)
  arms_on (piece.Other m ∷ st) sh h = absurd (let high = far m in let same : other m ≡ 8 = cc in omega (arith, high, same))
  arms_on (p ∷ st) sh h = cc

  at : (f : Stack M → Option (Stack M)) (st top : Stack M) (sh : Shapes) → st ≡ top → Done (f top) sh → Done (f st) sh
  at f st top sh e d = subst (λ z. Done (f z) sh) (sym e) d

  pub did_fine : (a : ExprAction) (st : Stack M) (rest : Shapes) → map (shape other) st ≡ expr_pops a ++ rest
      → (after : Stack M) × (did a st ≡ Some after) × (map (shape other) after ≡ expr_pushes a ++ rest)
  did_fine act.Begin st rest h = (st, refl, h)
  did_fine act.End st rest h = (st, refl, h)
  did_fine act.Or st rest h =
      let i = tree_on st (6 ∷ rest) h in
      let j = tree_on i.1 rest i.3 in
      at (did act.Or) st _ (6 ∷ rest) (i.2 ∙ ap (λ z. piece.Tree i.0 ∷ z) j.2) (_, refl, ap (λ z. 6 ∷ z) j.3)
  did_fine act.And st rest h =
      let i = tree_on st (6 ∷ rest) h in
      let j = tree_on i.1 rest i.3 in
      at (did act.And) st _ (6 ∷ rest) (i.2 ∙ ap (λ z. piece.Tree i.0 ∷ z) j.2) (_, refl, ap (λ z. 6 ∷ z) j.3)
  did_fine act.Not st rest h = let i = tree_on st rest h in at (did act.Not) st _ (6 ∷ rest) i.2 (_, refl, ap (λ z. 6 ∷ z) i.3)
  did_fine act.Equal st rest h =
      let i = tree_on st (6 ∷ rest) h in
      let j = tree_on i.1 rest i.3 in
      at (did act.Equal) st _ (6 ∷ rest) (i.2 ∙ ap (λ z. piece.Tree i.0 ∷ z) j.2) (_, refl, ap (λ z. 6 ∷ z) j.3)
  did_fine act.NotEqual st rest h =
      let i = tree_on st (6 ∷ rest) h in
      let j = tree_on i.1 rest i.3 in
      at (did act.NotEqual) st _ (6 ∷ rest) (i.2 ∙ ap (λ z. piece.Tree i.0 ∷ z) j.2) (_, refl, ap (λ z. 6 ∷ z) j.3)
  did_fine act.Less st rest h =
      let i = tree_on st (6 ∷ rest) h in
      let j = tree_on i.1 rest i.3 in
      at (did act.Less) st _ (6 ∷ rest) (i.2 ∙ ap (λ z. piece.Tree i.0 ∷ z) j.2) (_, refl, ap (λ z. 6 ∷ z) j.3)
  did_fine act.AtMost st rest h =
      let i = tree_on st (6 ∷ rest) h in
      let j = tree_on i.1 rest i.3 in
      at (did act.AtMost) st _ (6 ∷ rest) (i.2 ∙ ap (λ z. piece.Tree i.0 ∷ z) j.2) (_, refl, ap (λ z. 6 ∷ z) j.3)
  did_fine act.Greater st rest h =
      let i = tree_on st (6 ∷ rest) h in
      let j = tree_on i.1 rest i.3 in
      at (did act.Greater) st _ (6 ∷ rest) (i.2 ∙ ap (λ z. piece.Tree i.0 ∷ z) j.2) (_, refl, ap (λ z. 6 ∷ z) j.3)
  did_fine act.AtLeast st rest h =
      let i = tree_on st (6 ∷ rest) h in
      let j = tree_on i.1 rest i.3 in
      at (did act.AtLeast) st _ (6 ∷ rest) (i.2 ∙ ap (λ z. piece.Tree i.0 ∷ z) j.2) (_, refl, ap (λ z. 6 ∷ z) j.3)
  did_fine act.Like st rest h =
      let i = tree_on st (6 ∷ rest) h in
      let j = tree_on i.1 rest i.3 in
      at (did act.Like) st _ (6 ∷ rest) (i.2 ∙ ap (λ z. piece.Tree i.0 ∷ z) j.2) (_, refl, ap (λ z. 6 ∷ z) j.3)
  did_fine act.In st rest h =
      let i = list_on st (6 ∷ rest) h in
      let j = tree_on i.1 rest i.3 in
      at (did act.In) st _ (6 ∷ rest) (i.2 ∙ ap (λ z. piece.List i.0 ∷ z) j.2) (_, refl, ap (λ z. 6 ∷ z) j.3)
  did_fine act.IsNull st rest h = let i = tree_on st rest h in at (did act.IsNull) st _ (6 ∷ rest) i.2 (_, refl, ap (λ z. 6 ∷ z) i.3)
  did_fine act.IsNotNull st rest h = let i = tree_on st rest h in at (did act.IsNotNull) st _ (6 ∷ rest) i.2 (_, refl, ap (λ z. 6 ∷ z) i.3)
  did_fine act.NotLike st rest h =
      let i = tree_on st (6 ∷ rest) h in
      let j = tree_on i.1 rest i.3 in
      at (did act.NotLike) st _ (6 ∷ rest) (i.2 ∙ ap (λ z. piece.Tree i.0 ∷ z) j.2) (_, refl, ap (λ z. 6 ∷ z) j.3)
  did_fine act.NotIn st rest h =
      let i = list_on st (6 ∷ rest) h in
      let j = tree_on i.1 rest i.3 in
      at (did act.NotIn) st _ (6 ∷ rest) (i.2 ∙ ap (λ z. piece.List i.0 ∷ z) j.2) (_, refl, ap (λ z. 6 ∷ z) j.3)
  did_fine act.Concat st rest h =
      let i = tree_on st (6 ∷ rest) h in
      let j = tree_on i.1 rest i.3 in
      at (did act.Concat) st _ (6 ∷ rest) (i.2 ∙ ap (λ z. piece.Tree i.0 ∷ z) j.2) (_, refl, ap (λ z. 6 ∷ z) j.3)
  did_fine act.Add st rest h =
      let i = tree_on st (6 ∷ rest) h in
      let j = tree_on i.1 rest i.3 in
      at (did act.Add) st _ (6 ∷ rest) (i.2 ∙ ap (λ z. piece.Tree i.0 ∷ z) j.2) (_, refl, ap (λ z. 6 ∷ z) j.3)
  did_fine act.Subtract st rest h =
      let i = tree_on st (6 ∷ rest) h in
      let j = tree_on i.1 rest i.3 in
      at (did act.Subtract) st _ (6 ∷ rest) (i.2 ∙ ap (λ z. piece.Tree i.0 ∷ z) j.2) (_, refl, ap (λ z. 6 ∷ z) j.3)
  did_fine act.Multiply st rest h =
      let i = tree_on st (6 ∷ rest) h in
      let j = tree_on i.1 rest i.3 in
      at (did act.Multiply) st _ (6 ∷ rest) (i.2 ∙ ap (λ z. piece.Tree i.0 ∷ z) j.2) (_, refl, ap (λ z. 6 ∷ z) j.3)
  did_fine act.Divide st rest h =
      let i = tree_on st (6 ∷ rest) h in
      let j = tree_on i.1 rest i.3 in
      at (did act.Divide) st _ (6 ∷ rest) (i.2 ∙ ap (λ z. piece.Tree i.0 ∷ z) j.2) (_, refl, ap (λ z. 6 ∷ z) j.3)
  did_fine act.Remainder st rest h =
      let i = tree_on st (6 ∷ rest) h in
      let j = tree_on i.1 rest i.3 in
      at (did act.Remainder) st _ (6 ∷ rest) (i.2 ∙ ap (λ z. piece.Tree i.0 ∷ z) j.2) (_, refl, ap (λ z. 6 ∷ z) j.3)
  did_fine act.Minus st rest h = let i = tree_on st rest h in at (did act.Minus) st _ (6 ∷ rest) i.2 (_, refl, ap (λ z. 6 ∷ z) i.3)
  did_fine act.TypeAsName st rest h = let i = type_on st rest h in at (did act.TypeAsName) st _ (0 ∷ rest) i.2 (_, refl, ap (λ z. 0 ∷ z) i.3)
  did_fine act.Whole st rest h = let i = whole_on st rest h in at (did act.Whole) st _ (6 ∷ rest) i.2 (_, refl, ap (λ z. 6 ∷ z) i.3)
  did_fine act.Decimal st rest h = let i = decimal_on st rest h in at (did act.Decimal) st _ (6 ∷ rest) i.2 (_, refl, ap (λ z. 6 ∷ z) i.3)
  did_fine act.Quoted st rest h = let i = quoted_on st rest h in at (did act.Quoted) st _ (6 ∷ rest) i.2 (_, refl, ap (λ z. 6 ∷ z) i.3)
  did_fine act.True st rest h = (_, refl, ap (λ z. 6 ∷ z) h)
  did_fine act.False st rest h = (_, refl, ap (λ z. 6 ∷ z) h)
  did_fine act.Null st rest h = (_, refl, ap (λ z. 6 ∷ z) h)
  did_fine act.BeginArms st rest h = (_, refl, ap (λ z. 8 ∷ z) h)
  did_fine act.Coalesce st rest h = let i = list_on st rest h in at (did act.Coalesce) st _ (6 ∷ rest) i.2 (_, refl, ap (λ z. 6 ∷ z) i.3)
  did_fine act.Cast st rest h =
      let i = type_on st (6 ∷ rest) h in
      let j = tree_on i.1 rest i.3 in
      at (did act.Cast) st _ (6 ∷ rest) (i.2 ∙ ap (λ z. piece.TypeWord i.0 ∷ z) j.2) (_, refl, ap (λ z. 6 ∷ z) j.3)
  did_fine act.Caveat st rest h =
      let i = quoted_on st (6 ∷ 5 ∷ rest) h in
      let j = tree_on i.1 (5 ∷ rest) i.3 in
      let k = call_on j.1 rest j.3 in
      at (did act.Caveat) st _ (6 ∷ rest) (i.2 ∙ ap (λ z. piece.Quoted i.0 ∷ z) (j.2 ∙ ap (λ z. piece.Tree j.0 ∷ z) k.2)) (_, refl, ap (λ z. 6 ∷ z) k.3)
  did_fine act.Length st rest h = let i = tree_on st rest h in at (did act.Length) st _ (6 ∷ rest) i.2 (_, refl, ap (λ z. 6 ∷ z) i.3)
  did_fine act.Trim st rest h = let i = tree_on st rest h in at (did act.Trim) st _ (6 ∷ rest) i.2 (_, refl, ap (λ z. 6 ∷ z) i.3)
  did_fine act.Abs st rest h = let i = tree_on st rest h in at (did act.Abs) st _ (6 ∷ rest) i.2 (_, refl, ap (λ z. 6 ∷ z) i.3)
  did_fine act.Sum st rest h = let i = tree_on st rest h in at (did act.Sum) st _ (6 ∷ rest) i.2 (_, refl, ap (λ z. 6 ∷ z) i.3)
  did_fine act.Min st rest h = let i = tree_on st rest h in at (did act.Min) st _ (6 ∷ rest) i.2 (_, refl, ap (λ z. 6 ∷ z) i.3)
  did_fine act.Max st rest h = let i = tree_on st rest h in at (did act.Max) st _ (6 ∷ rest) i.2 (_, refl, ap (λ z. 6 ∷ z) i.3)
  did_fine act.Qualified st rest h =
      let i = name_on st (0 ∷ rest) h in
      let j = name_on i.1 rest i.3 in
      at (did act.Qualified) st _ (6 ∷ rest) (i.2 ∙ ap (λ z. piece.Name i.0 ∷ z) j.2) (_, refl, ap (λ z. 6 ∷ z) j.3)
  did_fine act.Bare st rest h = let i = name_on st rest h in at (did act.Bare) st _ (6 ∷ rest) i.2 (_, refl, ap (λ z. 6 ∷ z) i.3)
  did_fine act.BeginList st rest h = (_, refl, ap (λ z. 7 ∷ z) h)
  did_fine act.Entry st rest h =
      let i = tree_on st (7 ∷ rest) h in
      let j = list_on i.1 rest i.3 in
      at (did act.Entry) st _ (7 ∷ rest) (i.2 ∙ ap (λ z. piece.Tree i.0 ∷ z) j.2) (_, refl, ap (λ z. 7 ∷ z) j.3)
  did_fine act.Arm st rest h =
      let i = tree_on st (6 ∷ 8 ∷ rest) h in
      let j = tree_on i.1 (8 ∷ rest) i.3 in
      let k = arms_on j.1 rest j.3 in
      at (did act.Arm) st _ (8 ∷ rest) (i.2 ∙ ap (λ z. piece.Tree i.0 ∷ z) (j.2 ∙ ap (λ z. piece.Tree j.0 ∷ z) k.2)) (_, refl, ap (λ z. 8 ∷ z) k.3)
  did_fine act.CaseElse st rest h =
      let i = tree_on st (8 ∷ rest) h in
      let j = arms_on i.1 rest i.3 in
      at (did act.CaseElse) st _ (6 ∷ rest) (i.2 ∙ ap (λ z. piece.Tree i.0 ∷ z) j.2) (_, refl, ap (λ z. 6 ∷ z) j.3)
  did_fine act.Case st rest h = let i = arms_on st rest h in at (did act.Case) st _ (6 ∷ rest) i.2 (_, refl, ap (λ z. 6 ∷ z) i.3)
  did_fine act.CountAll st rest h = (_, refl, ap (λ z. 6 ∷ z) h)
  did_fine act.Count st rest h = let i = tree_on st rest h in at (did act.Count) st _ (6 ∷ rest) i.2 (_, refl, ap (λ z. 6 ∷ z) i.3)
