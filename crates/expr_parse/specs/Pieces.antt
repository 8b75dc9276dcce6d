-- What each token and each action does to the pieces, the topmost first.
use Rattle.std.specs.Prelude.{ℕ, Bool, true, false, List, [], ◌∷◌, ◌++◌, Option, Some, None, ℤ}
use Rattle.value_types.specs.declared.value.Value.TheVariants as value
use Rattle.value_types.specs.declared.value.ColumnType.{ColumnType}
use Rattle.notebook_grammar.specs.declared.lexeme.Lexeme.{Lexeme}
use Rattle.notebook_grammar.specs.declared.action.ExprAction.{ExprAction}
use Rattle.notebook_grammar.specs.declared.action.ExprAction.TheVariants as act
use Rattle.notebook_grammar.specs.Shapes as shapes
use Rattle.expr_lang.specs.declared.ops.UnaryOp.{UnaryOp}
use Rattle.expr_lang.specs.declared.ops.UnaryOp.TheVariants as one
use Rattle.expr_lang.specs.declared.ops.BinaryOp.{BinaryOp}
use Rattle.expr_lang.specs.declared.ops.BinaryOp.TheVariants as two
use Rattle.expr_lang.specs.declared.expr.Expr.{Expr}
use Rattle.expr_lang.specs.declared.expr.Expr.TheVariants as expr
use Rattle.expr_lang.specs.declared.expr.Arm.{Arm}
use Rattle.expr_parse.specs.declared.piece.Piece.{Piece}
use Rattle.expr_parse.specs.declared.piece.Piece.TheVariants as piece
use Rattle.expr_parse.specs.Values.{token_text, type_name, value_of}

-- pieces, those of the language around among them
abbrev pub Stack : Type 0 → Type 0
Stack M = List (Piece M)

-- go on with the name on top and what is below; none where no name is on top
abbrev pub with_name : {M : Type 0} → Stack M → (List ℕ → Stack M → Option (Stack M)) → Option (Stack M)
with_name (piece.Name name ∷ st) go = go name st
with_name st go = None

-- so with the type on top
abbrev pub with_type : {M : Type 0} → Stack M → (ColumnType → Stack M → Option (Stack M)) → Option (Stack M)
with_type (piece.TypeWord type ∷ st) go = go type st
with_type st go = None

-- so with the number without a point
abbrev pub with_whole : {M : Type 0} → Stack M → (ℤ → Stack M → Option (Stack M)) → Option (Stack M)
with_whole (piece.Whole n ∷ st) go = go n st
with_whole st go = None

-- so with the number with a point
abbrev pub with_decimal : {M : Type 0} → Stack M → (ℤ → Stack M → Option (Stack M)) → Option (Stack M)
with_decimal (piece.Decimal n ∷ st) go = go n st
with_decimal st go = None

-- so with the text
abbrev pub with_quoted : {M : Type 0} → Stack M → (List ℕ → Stack M → Option (Stack M)) → Option (Stack M)
with_quoted (piece.Quoted text ∷ st) go = go text st
with_quoted st go = None

-- so with the number of a CAVEAT
abbrev pub with_call : {M : Type 0} → Stack M → (ℕ → Stack M → Option (Stack M)) → Option (Stack M)
with_call (piece.Call call ∷ st) go = go call st
with_call st go = None

-- so with the expression
abbrev pub with_tree : {M : Type 0} → Stack M → (Expr → Stack M → Option (Stack M)) → Option (Stack M)
with_tree (piece.Tree e ∷ st) go = go e st
with_tree st go = None

-- so with the expressions
abbrev pub with_list : {M : Type 0} → Stack M → (List Expr → Stack M → Option (Stack M)) → Option (Stack M)
with_list (piece.List es ∷ st) go = go es st
with_list st go = None

-- so with the arms
abbrev pub with_arms : {M : Type 0} → Stack M → (List Arm → Stack M → Option (Stack M)) → Option (Stack M)
with_arms (piece.Arms arms ∷ st) go = go arms st
with_arms st go = None

-- an expression on top
abbrev pub tree : {M : Type 0} → Expr → Stack M → Option (Stack M)
tree e st = Some (piece.Tree e ∷ st)

-- an operator over the expression on top
abbrev pub unary : {M : Type 0} → UnaryOp → Stack M → Option (Stack M)
unary op st = with_tree st (λ e st. tree (expr.Unary op e) st)

-- an operator between the two expressions on top
abbrev pub binary : {M : Type 0} → BinaryOp → Stack M → Option (Stack M)
binary op st = with_tree st (λ b st. with_tree st (λ a st. tree (expr.Binary op a b) st))

-- IS NULL and IS NOT NULL
abbrev pub is_null : {M : Type 0} → Bool → Stack M → Option (Stack M)
is_null negated st = with_tree st (λ e st. tree (expr.IsNull e negated) st)

-- LIKE and NOT LIKE
abbrev pub like : {M : Type 0} → Bool → Stack M → Option (Stack M)
like negated st = with_tree st (λ b st. with_tree st (λ a st. tree (expr.Like a b negated) st))

-- IN and NOT IN
abbrev pub one_of : {M : Type 0} → Bool → Stack M → Option (Stack M)
one_of negated st = with_list st (λ es st. with_tree st (λ a st. tree (expr.OneOf a es negated) st))

-- what an action makes of the pieces on top; none where a piece is missing
abbrev pub did : {M : Type 0} → ExprAction → Stack M → Option (Stack M)
did act.Begin st = Some st
did act.End st = Some st
did act.Or st = binary two.Or st
did act.And st = binary two.And st
did act.Not st = unary one.Not st
did act.Equal st = binary two.Equal st
did act.NotEqual st = binary two.NotEqual st
did act.Less st = binary two.Less st
did act.AtMost st = binary two.AtMost st
did act.Greater st = binary two.Greater st
did act.AtLeast st = binary two.AtLeast st
did act.Like st = like false st
did act.In st = one_of false st
did act.IsNull st = is_null false st
did act.IsNotNull st = is_null true st
did act.NotLike st = like true st
did act.NotIn st = one_of true st
did act.Concat st = binary two.Concat st
did act.Add st = binary two.Add st
did act.Subtract st = binary two.Subtract st
did act.Multiply st = binary two.Multiply st
did act.Divide st = binary two.Divide st
did act.Remainder st = binary two.Remainder st
did act.Minus st = unary one.Minus st
did act.TypeAsName st = with_type st (λ type st. Some (piece.Name (type_name type) ∷ st))
did act.Whole st = with_whole st (λ n st. tree (expr.Literal (value.Int n)) st)
did act.Decimal st = with_decimal st (λ n st. tree (expr.Literal (value.Fixed n)) st)
did act.Quoted st = with_quoted st (λ text st. tree (expr.Literal (value.Text text)) st)
did act.True st = tree (expr.Literal (value.Bool true)) st
did act.False st = tree (expr.Literal (value.Bool false)) st
did act.Null st = tree (expr.Literal value.Null) st
did act.BeginArms st = Some (piece.Arms [] ∷ st)
did act.Coalesce st = with_list st (λ es st. tree (expr.Coalesce es) st)
did act.Cast st = with_type st (λ type st. with_tree st (λ e st. tree (expr.Cast e type) st))
did act.Caveat st = with_quoted st (λ text st. with_tree st (λ e st. with_call st (λ call st. tree (expr.Caveat e text call) st)))
did act.Length st = unary one.Length st
did act.Trim st = unary one.Trim st
did act.Abs st = unary one.Abs st
did act.Sum st = with_tree st (λ e st. tree (expr.Sum e) st)
did act.Min st = with_tree st (λ e st. tree (expr.Min e) st)
did act.Max st = with_tree st (λ e st. tree (expr.Max e) st)
did act.Qualified st = with_name st (λ name st. with_name st (λ table st. tree (expr.Column (Some table) name) st))
did act.Bare st = with_name st (λ name st. tree (expr.Column None name) st)
did act.BeginList st = Some (piece.List [] ∷ st)
did act.Entry st = with_tree st (λ e st. with_list st (λ es st. Some (piece.List (es ++ e ∷ []) ∷ st)))
did act.Arm st = with_tree st (λ answer st. with_tree st (λ condition st. with_arms st (λ arms st.
    Some (piece.Arms (arms ++ record { condition = condition; answer = answer } ∷ []) ∷ st))))
did act.CaseElse st = with_tree st (λ e st. with_arms st (λ arms st. tree (expr.Case arms (Some e)) st))
did act.Case st = with_arms st (λ arms st. tree (expr.Case arms None) st)
did act.CountAll st = tree expr.CountAll st
did act.Count st = with_tree st (λ e st. tree (expr.Count e) st)

-- the piece on top, if there is one
abbrev pub put : {M : Type 0} → Option (Piece M) → Stack M → Stack M
put None st = st
put (Some p) st = p ∷ st

-- a token puts down what it says
abbrev pub took : {M : Type 0} → List ℕ → Lexeme → Stack M → Stack M
took text l st = put (value_of l.kind (token_text text l) l.call) st

-- the shape of a piece, as the grammar numbers them; the pieces of the language around have theirs
abbrev pub shape : {M : Type 0} → (M → ℕ) → Piece M → ℕ
shape other (piece.Name name) = shapes.name
shape other (piece.TypeWord type) = shapes.type_word
shape other (piece.Whole n) = shapes.whole
shape other (piece.Decimal n) = shapes.decimal
shape other (piece.Quoted text) = shapes.quoted
shape other (piece.Call call) = shapes.call
shape other (piece.Tree e) = shapes.tree
shape other (piece.List es) = shapes.list
shape other (piece.Arms arms) = shapes.arms
shape other (piece.Other m) = other m
