-- That the machine ends: a rule weighs more than its right-hand side that takes no token.
use Rattle.std.specs.Prelude.{ℕ, ◌+◌, List, [], ◌∷◌}
use Rattle.ll1_grammar.specs.declared.item.Item.TheVariants.{Here, Inside, Do}
use Rattle.notebook_grammar.specs.declared.rule.Rule.{Rule}
use Rattle.notebook_grammar.specs.declared.rule.Rule.TheVariants as rule
use Rattle.notebook_grammar.specs.declared.rule.ExprRule.{ExprRule}
use Rattle.notebook_grammar.specs.declared.rule.ExprRule.TheVariants as e
use Rattle.notebook_grammar.specs.declared.rule.SelectRule.{SelectRule}
use Rattle.notebook_grammar.specs.declared.rule.SelectRule.TheVariants as s
use Rattle.notebook_grammar.specs.declared.rule.ScriptRule.{ScriptRule}
use Rattle.notebook_grammar.specs.declared.rule.ScriptRule.TheVariants as c
use Rattle.notebook_grammar.specs.declared.machine.Frame.{Frame}
use Rattle.notebook_grammar.specs.Rows.{Items}

-- the weights of the rules of expressions
abbrev pub expr_weight : ExprRule → ℕ
expr_weight e.Outermost = 33
expr_weight e.Or = 29
expr_weight e.OrTail = 2
expr_weight e.And = 25
expr_weight e.AndTail = 2
expr_weight e.Not = 21
expr_weight e.Comparison = 19
expr_weight e.ComparisonTail = 2
expr_weight e.Joined = 15
expr_weight e.JoinedTail = 2
expr_weight e.Sum = 11
expr_weight e.SumTail = 2
expr_weight e.Product = 7
expr_weight e.ProductTail = 2
expr_weight e.Signed = 3
expr_weight e.NameTail = 3
expr_weight e.List = 35
expr_weight e.ListTail = 2
expr_weight e.ArmsTail = 2
expr_weight e.CountTail = 32
expr_weight r = 1

-- the weights of the rules of SELECT
abbrev pub select_weight : SelectRule → ℕ
select_weight s.Select = 15
select_weight s.ThreeUnions = 2
select_weight s.TwoUnions = 2
select_weight s.OneUnion = 2
select_weight s.Distinct = 3
select_weight s.Items = 43
select_weight s.Item = 38
select_weight s.ItemName = 3
select_weight s.ItemsTail = 2
select_weight s.Table = 6
select_weight s.TableName = 3
select_weight s.ThreeJoins = 2
select_weight s.TwoJoins = 2
select_weight s.OneJoin = 2
select_weight s.Join = 42
select_weight s.Where = 3
select_weight s.GroupBy = 3
select_weight s.Column = 6
select_weight s.ColumnTail = 3
select_weight s.ColumnsTail = 2
select_weight s.Having = 3
select_weight s.OrderBy = 3
select_weight s.Key = 6
select_weight s.Direction = 3
select_weight s.KeysTail = 2
select_weight s.Limit = 3
select_weight s.End = 2
select_weight r = 1

-- the weights of the rules of scripts
abbrev pub script_weight : ScriptRule → ℕ
script_weight c.Script = 9
script_weight c.Builders = 2
script_weight c.Column = 5
script_weight c.ColumnsTail = 2
script_weight c.Statements = 2
script_weight c.Source = 36
script_weight c.Else = 3
script_weight c.Values = 39
script_weight c.ValuesTail = 2
script_weight r = 1

-- the weight of a rule
abbrev pub weight : Rule → ℕ
weight (rule.Expect kind) = 1
weight (rule.Expr r) = expr_weight r
weight (rule.Select r) = select_weight r
weight (rule.Script r) = script_weight r

-- the weight of items; an action counts 1
abbrev pub mass : Items → ℕ
mass [] = 0
mass (Here r ∷ s) = weight r + mass s
mass (Inside r ∷ s) = weight r + mass s
mass (Do a ∷ s) = 1 + mass s

-- the weight of frames
abbrev pub load : List Frame → ℕ
load [] = 0
load (f ∷ fs) = 1 + mass f.rest.now + load fs
