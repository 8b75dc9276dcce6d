-- The operators that actions make.
use Rattle.std.specs.Prelude.{true, false, Option, Some, None}
use Rattle.notebook_grammar.specs.declared.action.ExprAction.{ExprAction}
use Rattle.notebook_grammar.specs.declared.action.ExprAction.TheVariants as act
use Rattle.expr_lang.specs.declared.ops.UnaryOp.TheVariants as one
use Rattle.expr_lang.specs.declared.ops.BinaryOp.TheVariants as two
use Rattle.expr_parse.specs.declared.operator.Operator.{Operator}
use Rattle.expr_parse.specs.declared.operator.Operator.TheVariants as operator
use Rattle.expr_parse.specs.Pieces.{Stack, unary, binary, is_null, like, one_of}

-- the operator that an action makes; none where it makes something else
abbrev pub operator_of : ExprAction → Option Operator
operator_of act.Or = Some (operator.Binary two.Or)
operator_of act.And = Some (operator.Binary two.And)
operator_of act.Equal = Some (operator.Binary two.Equal)
operator_of act.NotEqual = Some (operator.Binary two.NotEqual)
operator_of act.Less = Some (operator.Binary two.Less)
operator_of act.AtMost = Some (operator.Binary two.AtMost)
operator_of act.Greater = Some (operator.Binary two.Greater)
operator_of act.AtLeast = Some (operator.Binary two.AtLeast)
operator_of act.Concat = Some (operator.Binary two.Concat)
operator_of act.Add = Some (operator.Binary two.Add)
operator_of act.Subtract = Some (operator.Binary two.Subtract)
operator_of act.Multiply = Some (operator.Binary two.Multiply)
operator_of act.Divide = Some (operator.Binary two.Divide)
operator_of act.Remainder = Some (operator.Binary two.Remainder)
operator_of act.Not = Some (operator.Unary one.Not)
operator_of act.Minus = Some (operator.Unary one.Minus)
operator_of act.Length = Some (operator.Unary one.Length)
operator_of act.Trim = Some (operator.Unary one.Trim)
operator_of act.Abs = Some (operator.Unary one.Abs)
operator_of act.IsNull = Some (operator.IsNull false)
operator_of act.IsNotNull = Some (operator.IsNull true)
operator_of act.Like = Some (operator.Like false)
operator_of act.NotLike = Some (operator.Like true)
operator_of act.In = Some (operator.OneOf false)
operator_of act.NotIn = Some (operator.OneOf true)
operator_of action = None

-- the operator over what is on top
abbrev pub operated : {M : Type 0} → Operator → Stack M → Option (Stack M)
operated (operator.Unary op) st = unary op st
operated (operator.Binary op) st = binary op st
operated (operator.IsNull negated) st = is_null negated st
operated (operator.Like negated) st = like negated st
operated (operator.OneOf negated) st = one_of negated st
