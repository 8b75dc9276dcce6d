-- An action that makes an operator does what the operator does.
use Rattle.std.proofs.Common.{◌≡◌, Option, Some, ap}
use Rattle.notebook_grammar.specs.declared.action.ExprAction.{ExprAction}
use Rattle.notebook_grammar.specs.declared.action.ExprAction.TheVariants as act
use Rattle.expr_parse.specs.declared.operator.Operator.{Operator}
use Rattle.expr_parse.specs.Pieces.{Stack, did}
use Rattle.expr_parse.specs.Operators.{operator_of, operated}

-- one operator is done as itself
as_itself : {M : Type 0} (a b : Operator) (st : Stack M) → (let o : Option Operator = Some a in o) ≡ Some b → operated a st ≡ operated b st
as_itself a b st e = let same : a ≡ b = cc in ap (λ x. operated x st) same

pub operator_did : {M : Type 0} (action : ExprAction) (op : Operator) (st : Stack M) → operator_of action ≡ Some op → did action st ≡ operated op st
operator_did act.Or op st e = as_itself _ op st e
operator_did act.And op st e = as_itself _ op st e
operator_did act.Equal op st e = as_itself _ op st e
operator_did act.NotEqual op st e = as_itself _ op st e
operator_did act.Less op st e = as_itself _ op st e
operator_did act.AtMost op st e = as_itself _ op st e
operator_did act.Greater op st e = as_itself _ op st e
operator_did act.AtLeast op st e = as_itself _ op st e
operator_did act.Concat op st e = as_itself _ op st e
operator_did act.Add op st e = as_itself _ op st e
operator_did act.Subtract op st e = as_itself _ op st e
operator_did act.Multiply op st e = as_itself _ op st e
operator_did act.Divide op st e = as_itself _ op st e
operator_did act.Remainder op st e = as_itself _ op st e
operator_did act.Not op st e = as_itself _ op st e
operator_did act.Minus op st e = as_itself _ op st e
operator_did act.Length op st e = as_itself _ op st e
operator_did act.Trim op st e = as_itself _ op st e
operator_did act.Abs op st e = as_itself _ op st e
operator_did act.IsNull op st e = as_itself _ op st e
operator_did act.IsNotNull op st e = as_itself _ op st e
operator_did act.Like op st e = as_itself _ op st e
operator_did act.NotLike op st e = as_itself _ op st e
operator_did act.In op st e = as_itself _ op st e
operator_did act.NotIn op st e = as_itself _ op st e
operator_did action op st e = cc
