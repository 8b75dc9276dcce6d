-- The rules of expressions, a line for each right-hand side.
--
-- outermost := or                        or := and {OR and}           and := not {AND not}
-- not := NOT not | comparison
-- comparison := joined [op joined | IS [NOT] NULL | [NOT] LIKE joined | [NOT] IN ( list )]
-- op := = | <> | != | < | <= | > | >=     joined := sum {|| sum}
-- sum := product {(+ | -) product}        product := signed {(* | / | %) signed}
-- signed := - signed | atom               name := a word that is not reserved
-- atom := number | text | TRUE | FALSE | NULL | name [. name] | ( or )
--   | CASE WHEN or THEN or {WHEN or THEN or} [ELSE or] END
--   | COALESCE ( list ) | CAST ( or AS type ) | CAVEAT ( or , text ) | COUNT ( * ) | COUNT ( or )
--   | LENGTH ( or ) | TRIM ( or ) | ABS ( or ) | SUM ( or ) | MIN ( or ) | MAX ( or )
-- list := or {, or}
--
-- A level is opened by parentheses, NOT, a minus in front, CASE, IN and a call, which is refused at its
-- first word where no level is left.
use Rattle.std.specs.Prelude.{ℕ, List, [], ◌∷◌, Option, Some, None}
use Rattle.notebook_grammar.specs.declared.kind.Kind.TheVariants as k
use Rattle.notebook_grammar.specs.declared.rule.ExprRule.{ExprRule}
use Rattle.notebook_grammar.specs.declared.rule.ExprRule.TheVariants as e
use Rattle.notebook_grammar.specs.declared.action.ExprAction.TheVariants as e_act
use Rattle.notebook_grammar.specs.Rows.{Items, on, expr, expr_do, expr_in, token}

-- what comes after a token with which the rule begins
abbrev pub alternatives : ExprRule → List (ℕ × Items)
alternatives e.OrTail = on k.Or (expr e.And ∷ expr_do e_act.Or ∷ expr e.OrTail ∷ []) ∷ []
alternatives e.AndTail = on k.And (expr e.Not ∷ expr_do e_act.And ∷ expr e.AndTail ∷ []) ∷ []
alternatives e.Not = on k.Not (expr_in e.Not ∷ expr_do e_act.Not ∷ []) ∷ []
alternatives e.ComparisonTail =
    on k.Equal (expr e.Joined ∷ expr_do e_act.Equal ∷ [])
    ∷ on k.NotEqual (expr e.Joined ∷ expr_do e_act.NotEqual ∷ [])
    ∷ on k.Less (expr e.Joined ∷ expr_do e_act.Less ∷ [])
    ∷ on k.AtMost (expr e.Joined ∷ expr_do e_act.AtMost ∷ [])
    ∷ on k.Greater (expr e.Joined ∷ expr_do e_act.Greater ∷ [])
    ∷ on k.AtLeast (expr e.Joined ∷ expr_do e_act.AtLeast ∷ [])
    ∷ on k.Is (expr e.IsTail ∷ [])
    ∷ on k.Not (expr e.NotTail ∷ [])
    ∷ on k.Like (expr e.Joined ∷ expr_do e_act.Like ∷ [])
    ∷ on k.In (token k.Open ∷ expr_in e.List ∷ token k.Close ∷ expr_do e_act.In ∷ [])
    ∷ []
alternatives e.IsTail =
    on k.Null (expr_do e_act.IsNull ∷ [])
    ∷ on k.Not (token k.Null ∷ expr_do e_act.IsNotNull ∷ [])
    ∷ []
alternatives e.NotTail =
    on k.Like (expr e.Joined ∷ expr_do e_act.NotLike ∷ [])
    ∷ on k.In (token k.Open ∷ expr_in e.List ∷ token k.Close ∷ expr_do e_act.NotIn ∷ [])
    ∷ []
alternatives e.JoinedTail = on k.Bars (expr e.Sum ∷ expr_do e_act.Concat ∷ expr e.JoinedTail ∷ []) ∷ []
alternatives e.SumTail =
    on k.Plus (expr e.Product ∷ expr_do e_act.Add ∷ expr e.SumTail ∷ [])
    ∷ on k.Minus (expr e.Product ∷ expr_do e_act.Subtract ∷ expr e.SumTail ∷ [])
    ∷ []
alternatives e.ProductTail =
    on k.Star (expr e.Signed ∷ expr_do e_act.Multiply ∷ expr e.ProductTail ∷ [])
    ∷ on k.Slash (expr e.Signed ∷ expr_do e_act.Divide ∷ expr e.ProductTail ∷ [])
    ∷ on k.Percent (expr e.Signed ∷ expr_do e_act.Remainder ∷ expr e.ProductTail ∷ [])
    ∷ []
alternatives e.Signed = on k.Minus (expr_in e.Signed ∷ expr_do e_act.Minus ∷ []) ∷ []
alternatives e.Atom =
    on k.Name (expr e.NameTail ∷ [])
    ∷ on k.TypeWord (expr_do e_act.TypeAsName ∷ expr e.NameTail ∷ [])
    ∷ on k.Whole (expr_do e_act.Whole ∷ [])
    ∷ on k.Decimal (expr_do e_act.Decimal ∷ [])
    ∷ on k.Quoted (expr_do e_act.Quoted ∷ [])
    ∷ on k.True (expr_do e_act.True ∷ [])
    ∷ on k.False (expr_do e_act.False ∷ [])
    ∷ on k.Null (expr_do e_act.Null ∷ [])
    ∷ on k.Open (expr_in e.Or ∷ token k.Close ∷ [])
    ∷ on k.Case (expr_do e_act.BeginArms ∷ expr_in e.Arm ∷ expr_in e.ArmsTail ∷ expr_in e.CaseTail ∷ [])
    ∷ on k.Coalesce (token k.Open ∷ expr_in e.List ∷ token k.Close ∷ expr_do e_act.Coalesce ∷ [])
    ∷ on k.Cast (token k.Open ∷ expr_in e.Or ∷ token k.As ∷ token k.TypeWord ∷ token k.Close ∷ expr_do e_act.Cast ∷ [])
    ∷ on k.Caveat (token k.Open ∷ expr_in e.Or ∷ token k.Comma ∷ token k.Quoted ∷ token k.Close ∷ expr_do e_act.Caveat ∷ [])
    ∷ on k.Length (token k.Open ∷ expr_in e.Or ∷ token k.Close ∷ expr_do e_act.Length ∷ [])
    ∷ on k.Trim (token k.Open ∷ expr_in e.Or ∷ token k.Close ∷ expr_do e_act.Trim ∷ [])
    ∷ on k.Abs (token k.Open ∷ expr_in e.Or ∷ token k.Close ∷ expr_do e_act.Abs ∷ [])
    ∷ on k.Count (token k.Open ∷ expr_in e.CountTail ∷ token k.Close ∷ [])
    ∷ on k.Sum (token k.Open ∷ expr_in e.Or ∷ token k.Close ∷ expr_do e_act.Sum ∷ [])
    ∷ on k.Min (token k.Open ∷ expr_in e.Or ∷ token k.Close ∷ expr_do e_act.Min ∷ [])
    ∷ on k.Max (token k.Open ∷ expr_in e.Or ∷ token k.Close ∷ expr_do e_act.Max ∷ [])
    ∷ []
alternatives e.NameTail = on k.Point (expr e.Name ∷ expr_do e_act.Qualified ∷ []) ∷ []
alternatives e.Name =
    on k.Name []
    ∷ on k.TypeWord (expr_do e_act.TypeAsName ∷ [])
    ∷ []
alternatives e.ListTail = on k.Comma (expr e.Or ∷ expr_do e_act.Entry ∷ expr e.ListTail ∷ []) ∷ []
alternatives e.Arm = on k.When (expr e.Or ∷ token k.Then ∷ expr e.Or ∷ expr_do e_act.Arm ∷ []) ∷ []
alternatives e.ArmsTail = on k.When (expr e.Or ∷ token k.Then ∷ expr e.Or ∷ expr_do e_act.Arm ∷ expr e.ArmsTail ∷ []) ∷ []
alternatives e.CaseTail =
    on k.Else (expr e.Or ∷ token k.End ∷ expr_do e_act.CaseElse ∷ [])
    ∷ on k.End (expr_do e_act.Case ∷ [])
    ∷ []
alternatives e.CountTail = on k.Star (expr_do e_act.CountAll ∷ []) ∷ []
alternatives r = []

-- the right-hand side that begins with no token of its own
abbrev pub otherwise : ExprRule → Option Items
otherwise e.Outermost = Some (expr_do e_act.Begin ∷ expr e.Or ∷ expr_do e_act.End ∷ [])
otherwise e.Or = Some (expr e.And ∷ expr e.OrTail ∷ [])
otherwise e.OrTail = Some []
otherwise e.And = Some (expr e.Not ∷ expr e.AndTail ∷ [])
otherwise e.AndTail = Some []
otherwise e.Not = Some (expr e.Comparison ∷ [])
otherwise e.Comparison = Some (expr e.Joined ∷ expr e.ComparisonTail ∷ [])
otherwise e.ComparisonTail = Some []
otherwise e.Joined = Some (expr e.Sum ∷ expr e.JoinedTail ∷ [])
otherwise e.JoinedTail = Some []
otherwise e.Sum = Some (expr e.Product ∷ expr e.SumTail ∷ [])
otherwise e.SumTail = Some []
otherwise e.Product = Some (expr e.Signed ∷ expr e.ProductTail ∷ [])
otherwise e.ProductTail = Some []
otherwise e.Signed = Some (expr e.Atom ∷ [])
otherwise e.NameTail = Some (expr_do e_act.Bare ∷ [])
otherwise e.List = Some (expr_do e_act.BeginList ∷ expr e.Or ∷ expr_do e_act.Entry ∷ expr e.ListTail ∷ [])
otherwise e.ListTail = Some []
otherwise e.ArmsTail = Some []
otherwise e.CountTail = Some (expr e.Or ∷ expr_do e_act.Count ∷ [])
otherwise r = None
