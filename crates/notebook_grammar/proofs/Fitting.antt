-- The shapes fit, rule by rule, and no kind of text leads out of its part of the table.
use Rattle.std.proofs.Common.{◌≡◌, true, Some, refl, ap}
use Rattle.std.specs.Prelude.{◌&&◌}
use Rattle.ll1_grammar.specs.Pieces.{alternatives_of, otherwise_of, RulesFlow, AlternativesFlow, OtherwiseFlows, IsClosed}
use Rattle.ll1_grammar.proofs.OnePiece.{one_piece}
use Rattle.notebook_grammar.specs.declared.rule.Rule.{Rule}
use Rattle.notebook_grammar.specs.declared.rule.Rule.TheVariants as rule
use Rattle.notebook_grammar.specs.declared.rule.ExprRule.{ExprRule}
use Rattle.notebook_grammar.specs.declared.rule.ExprRule.TheVariants as e
use Rattle.notebook_grammar.specs.declared.rule.SelectRule.{SelectRule}
use Rattle.notebook_grammar.specs.declared.rule.SelectRule.TheVariants as s
use Rattle.notebook_grammar.specs.declared.rule.ScriptRule.{ScriptRule}
use Rattle.notebook_grammar.specs.declared.rule.ScriptRule.TheVariants as c
use Rattle.notebook_grammar.specs.declared.start.Start.{Start}
use Rattle.notebook_grammar.specs.declared.start.Start.TheVariants as start
use Rattle.notebook_grammar.specs.Kinds.{code_of}
use Rattle.notebook_grammar.specs.Language.{table, language, kind_code, at_room, rule_of}
use Rattle.notebook_grammar.specs.Shapes.{token}
use Rattle.notebook_grammar.specs.Effects.{shapes}
use Rattle.notebook_grammar.specs.Parts.{part_of, shape_of}
use Rattle.notebook_grammar.specs.Laws.{HaveTrees}
use Rattle.notebook_grammar.proofs.Cutting.{append_none}

expr_flows : (r : ExprRule) → AlternativesFlow shapes (rule.Expr r) (table.alternatives (rule.Expr r)) × OtherwiseFlows shapes (rule.Expr r) (table.otherwise (rule.Expr r))
expr_flows e.Outermost = (tt, refl)
expr_flows e.Or = (tt, refl)
expr_flows e.OrTail = ((refl, tt), refl)
expr_flows e.And = (tt, refl)
expr_flows e.AndTail = ((refl, tt), refl)
expr_flows e.Not = ((refl, tt), refl)
expr_flows e.Comparison = (tt, refl)
expr_flows e.ComparisonTail = ((refl, (refl, (refl, (refl, (refl, (refl, (refl, (refl, (refl, (refl, tt)))))))))), refl)
expr_flows e.IsTail = ((refl, (refl, tt)), tt)
expr_flows e.NotTail = ((refl, (refl, tt)), tt)
expr_flows e.Joined = (tt, refl)
expr_flows e.JoinedTail = ((refl, tt), refl)
expr_flows e.Sum = (tt, refl)
expr_flows e.SumTail = ((refl, (refl, tt)), refl)
expr_flows e.Product = (tt, refl)
expr_flows e.ProductTail = ((refl, (refl, (refl, tt))), refl)
expr_flows e.Signed = ((refl, tt), refl)
expr_flows e.Atom = ((refl, (refl, (refl, (refl, (refl, (refl, (refl, (refl, (refl, (refl, (refl, (refl, (refl, (refl, (refl, (refl, (refl, (refl, (refl, (refl, tt)))))))))))))))))))), tt)
expr_flows e.NameTail = ((refl, tt), refl)
expr_flows e.Name = ((refl, (refl, tt)), tt)
expr_flows e.List = (tt, refl)
expr_flows e.ListTail = ((refl, tt), refl)
expr_flows e.Arm = ((refl, tt), tt)
expr_flows e.ArmsTail = ((refl, tt), refl)
expr_flows e.CaseTail = ((refl, (refl, tt)), tt)
expr_flows e.CountTail = ((refl, tt), refl)

select_flows : (r : SelectRule) → AlternativesFlow shapes (rule.Select r) (table.alternatives (rule.Select r)) × OtherwiseFlows shapes (rule.Select r) (table.otherwise (rule.Select r))
select_flows s.Select = (tt, refl)
select_flows s.Core = ((refl, tt), tt)
select_flows s.ThreeUnions = ((refl, tt), refl)
select_flows s.TwoUnions = ((refl, tt), refl)
select_flows s.OneUnion = ((refl, tt), refl)
select_flows s.Distinct = ((refl, tt), refl)
select_flows s.Items = ((refl, tt), refl)
select_flows s.Item = (tt, refl)
select_flows s.ItemName = ((refl, tt), refl)
select_flows s.ItemsTail = ((refl, tt), refl)
select_flows s.Table = (tt, refl)
select_flows s.TableName = ((refl, (refl, (refl, tt))), refl)
select_flows s.ThreeJoins = ((refl, (refl, (refl, tt))), refl)
select_flows s.TwoJoins = ((refl, (refl, (refl, tt))), refl)
select_flows s.OneJoin = ((refl, (refl, (refl, tt))), refl)
select_flows s.LeftTail = ((refl, (refl, tt)), tt)
select_flows s.Join = (tt, refl)
select_flows s.Where = ((refl, tt), refl)
select_flows s.GroupBy = ((refl, tt), refl)
select_flows s.Column = (tt, refl)
select_flows s.ColumnTail = ((refl, tt), refl)
select_flows s.ColumnsTail = ((refl, tt), refl)
select_flows s.Having = ((refl, tt), refl)
select_flows s.OrderBy = ((refl, tt), refl)
select_flows s.Key = (tt, refl)
select_flows s.Direction = ((refl, (refl, tt)), refl)
select_flows s.KeysTail = ((refl, tt), refl)
select_flows s.Limit = ((refl, tt), refl)
select_flows s.End = ((refl, tt), refl)

script_flows : (r : ScriptRule) → AlternativesFlow shapes (rule.Script r) (table.alternatives (rule.Script r)) × OtherwiseFlows shapes (rule.Script r) (table.otherwise (rule.Script r))
script_flows c.Script = (tt, refl)
script_flows c.Builders = ((refl, tt), refl)
script_flows c.Column = (tt, refl)
script_flows c.ColumnsTail = ((refl, tt), refl)
script_flows c.Statements = ((refl, (refl, (refl, (refl, (refl, (refl, (refl, (refl, (refl, tt))))))))), refl)
script_flows c.Assigned = ((refl, tt), tt)
script_flows c.Source = ((refl, (refl, tt)), refl)
script_flows c.Block = ((refl, tt), tt)
script_flows c.Else = ((refl, tt), refl)
script_flows c.Loop = ((refl, (refl, tt)), tt)
script_flows c.Target = ((refl, (refl, (refl, tt))), tt)
script_flows c.Values = (tt, refl)
script_flows c.ValuesTail = ((refl, tt), refl)

pub flows : RulesFlow table shapes
flows (rule.Expect kind) = ((ap (λ l. Some l) (append_none (token (code_of kind))), tt), tt)
flows (rule.Expr r) = expr_flows r
flows (rule.Select r) = select_flows r
flows (rule.Script r) = script_flows r

-- the rule doesn't lead out of the part
abbrev Closed : Start → Rule → Type 0
Closed whole r = alternatives_of (part_of whole) (table.alternatives r) && otherwise_of (part_of whole) (table.otherwise r) ≡ true

expression_expr_closed : (r : ExprRule) → Closed start.Expression (rule.Expr r)
expression_expr_closed e.Outermost = refl
expression_expr_closed e.Or = refl
expression_expr_closed e.OrTail = refl
expression_expr_closed e.And = refl
expression_expr_closed e.AndTail = refl
expression_expr_closed e.Not = refl
expression_expr_closed e.Comparison = refl
expression_expr_closed e.ComparisonTail = refl
expression_expr_closed e.IsTail = refl
expression_expr_closed e.NotTail = refl
expression_expr_closed e.Joined = refl
expression_expr_closed e.JoinedTail = refl
expression_expr_closed e.Sum = refl
expression_expr_closed e.SumTail = refl
expression_expr_closed e.Product = refl
expression_expr_closed e.ProductTail = refl
expression_expr_closed e.Signed = refl
expression_expr_closed e.Atom = refl
expression_expr_closed e.NameTail = refl
expression_expr_closed e.Name = refl
expression_expr_closed e.List = refl
expression_expr_closed e.ListTail = refl
expression_expr_closed e.Arm = refl
expression_expr_closed e.ArmsTail = refl
expression_expr_closed e.CaseTail = refl
expression_expr_closed e.CountTail = refl

select_expr_closed : (r : ExprRule) → Closed start.Select (rule.Expr r)
select_expr_closed e.Outermost = refl
select_expr_closed e.Or = refl
select_expr_closed e.OrTail = refl
select_expr_closed e.And = refl
select_expr_closed e.AndTail = refl
select_expr_closed e.Not = refl
select_expr_closed e.Comparison = refl
select_expr_closed e.ComparisonTail = refl
select_expr_closed e.IsTail = refl
select_expr_closed e.NotTail = refl
select_expr_closed e.Joined = refl
select_expr_closed e.JoinedTail = refl
select_expr_closed e.Sum = refl
select_expr_closed e.SumTail = refl
select_expr_closed e.Product = refl
select_expr_closed e.ProductTail = refl
select_expr_closed e.Signed = refl
select_expr_closed e.Atom = refl
select_expr_closed e.NameTail = refl
select_expr_closed e.Name = refl
select_expr_closed e.List = refl
select_expr_closed e.ListTail = refl
select_expr_closed e.Arm = refl
select_expr_closed e.ArmsTail = refl
select_expr_closed e.CaseTail = refl
select_expr_closed e.CountTail = refl

select_select_closed : (r : SelectRule) → Closed start.Select (rule.Select r)
select_select_closed s.Select = refl
select_select_closed s.Core = refl
select_select_closed s.ThreeUnions = refl
select_select_closed s.TwoUnions = refl
select_select_closed s.OneUnion = refl
select_select_closed s.Distinct = refl
select_select_closed s.Items = refl
select_select_closed s.Item = refl
select_select_closed s.ItemName = refl
select_select_closed s.ItemsTail = refl
select_select_closed s.Table = refl
select_select_closed s.TableName = refl
select_select_closed s.ThreeJoins = refl
select_select_closed s.TwoJoins = refl
select_select_closed s.OneJoin = refl
select_select_closed s.LeftTail = refl
select_select_closed s.Join = refl
select_select_closed s.Where = refl
select_select_closed s.GroupBy = refl
select_select_closed s.Column = refl
select_select_closed s.ColumnTail = refl
select_select_closed s.ColumnsTail = refl
select_select_closed s.Having = refl
select_select_closed s.OrderBy = refl
select_select_closed s.Key = refl
select_select_closed s.Direction = refl
select_select_closed s.KeysTail = refl
select_select_closed s.Limit = refl
select_select_closed s.End = refl

script_expr_closed : (r : ExprRule) → Closed start.Script (rule.Expr r)
script_expr_closed e.Outermost = refl
script_expr_closed e.Or = refl
script_expr_closed e.OrTail = refl
script_expr_closed e.And = refl
script_expr_closed e.AndTail = refl
script_expr_closed e.Not = refl
script_expr_closed e.Comparison = refl
script_expr_closed e.ComparisonTail = refl
script_expr_closed e.IsTail = refl
script_expr_closed e.NotTail = refl
script_expr_closed e.Joined = refl
script_expr_closed e.JoinedTail = refl
script_expr_closed e.Sum = refl
script_expr_closed e.SumTail = refl
script_expr_closed e.Product = refl
script_expr_closed e.ProductTail = refl
script_expr_closed e.Signed = refl
script_expr_closed e.Atom = refl
script_expr_closed e.NameTail = refl
script_expr_closed e.Name = refl
script_expr_closed e.List = refl
script_expr_closed e.ListTail = refl
script_expr_closed e.Arm = refl
script_expr_closed e.ArmsTail = refl
script_expr_closed e.CaseTail = refl
script_expr_closed e.CountTail = refl

script_script_closed : (r : ScriptRule) → Closed start.Script (rule.Script r)
script_script_closed c.Script = refl
script_script_closed c.Builders = refl
script_script_closed c.Column = refl
script_script_closed c.ColumnsTail = refl
script_script_closed c.Statements = refl
script_script_closed c.Assigned = refl
script_script_closed c.Source = refl
script_script_closed c.Block = refl
script_script_closed c.Else = refl
script_script_closed c.Loop = refl
script_script_closed c.Target = refl
script_script_closed c.Values = refl
script_script_closed c.ValuesTail = refl

pub closed : (whole : Start) → IsClosed table (part_of whole)
closed whole (rule.Expect kind) e = refl
closed start.Expression (rule.Expr r) e = expression_expr_closed r
closed start.Expression (rule.Select r) e = cc
closed start.Expression (rule.Script r) e = cc
closed start.Select (rule.Expr r) e = select_expr_closed r
closed start.Select (rule.Select r) e = select_select_closed r
closed start.Select (rule.Script r) e = cc
closed start.Script (rule.Expr r) e = script_expr_closed r
closed start.Script (rule.Select r) e = cc
closed start.Script (rule.Script r) e = script_script_closed r

pub have_trees : {P : Type 0} → HaveTrees P
unfolding language
have_trees start.Expression b shape keeps lexemes steps d = one_piece table kind_code shapes flows (part_of start.Expression) (closed start.Expression) b shape keeps (at_room (rule_of start.Expression) 64) (shape_of start.Expression) lexemes steps refl refl refl d
have_trees start.Select b shape keeps lexemes steps d = one_piece table kind_code shapes flows (part_of start.Select) (closed start.Select) b shape keeps (at_room (rule_of start.Select) 64) (shape_of start.Select) lexemes steps refl refl refl d
have_trees start.Script b shape keeps lexemes steps d = one_piece table kind_code shapes flows (part_of start.Script) (closed start.Script) b shape keeps (at_room (rule_of start.Script) 64) (shape_of start.Script) lexemes steps refl refl refl d
