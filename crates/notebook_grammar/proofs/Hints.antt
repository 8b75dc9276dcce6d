-- FIRST and FOLLOW of each rule. The test of the table finds whether they are right.
use Rattle.std.specs.Prelude.{Bool, true, false, List, [], ◌∷◌, map}
use Rattle.ll1_grammar.specs.Test.{Hints}
use Rattle.notebook_grammar.specs.declared.kind.Kind.{Kind}
use Rattle.notebook_grammar.specs.declared.kind.Kind.TheVariants as k
use Rattle.notebook_grammar.specs.declared.rule.Rule.{Rule}
use Rattle.notebook_grammar.specs.declared.rule.Rule.TheVariants as rule
use Rattle.notebook_grammar.specs.declared.rule.ExprRule.{ExprRule}
use Rattle.notebook_grammar.specs.declared.rule.ExprRule.TheVariants as e
use Rattle.notebook_grammar.specs.declared.rule.SelectRule.{SelectRule}
use Rattle.notebook_grammar.specs.declared.rule.SelectRule.TheVariants as s
use Rattle.notebook_grammar.specs.declared.rule.ScriptRule.{ScriptRule}
use Rattle.notebook_grammar.specs.declared.rule.ScriptRule.TheVariants as c
use Rattle.notebook_grammar.specs.Kinds.{code_of}

abbrev Kinds : Type 0
Kinds = List Kind

abbrev begin_script_statements : Kinds
begin_script_statements = k.Name ∷ k.TypeWord ∷ k.Drop ∷ k.Emit ∷ k.For ∷ k.If ∷ k.Print ∷ k.While ∷ k.Write ∷ []

abbrev begin_comparison_tail : Kinds
begin_comparison_tail = k.Equal ∷ k.NotEqual ∷ k.Less ∷ k.AtMost ∷ k.Greater ∷ k.AtLeast ∷ k.In ∷ k.Is ∷ k.Like ∷ k.Not ∷ []

abbrev begin_script_script : Kinds
begin_script_script = k.Table ∷ begin_script_statements

abbrev begin_atom : Kinds
begin_atom = k.Name ∷ k.TypeWord ∷ k.Whole ∷ k.Decimal ∷ k.Quoted ∷ k.Open ∷ k.Abs ∷ k.Case ∷ k.Cast ∷ k.Caveat ∷ k.Coalesce ∷ k.Count ∷ k.False ∷ k.Length ∷ k.Max ∷ k.Min ∷ k.Null ∷ k.Sum ∷ k.Trim ∷ k.True ∷ []

abbrev begin_comparison : Kinds
begin_comparison = k.Minus ∷ begin_atom

abbrev begin_outermost : Kinds
begin_outermost = k.Not ∷ begin_comparison

abbrev begin_count_tail : Kinds
begin_count_tail = k.Star ∷ begin_outermost

abbrev begin_script_source : Kinds
begin_script_source = k.Exists ∷ k.Rows ∷ begin_outermost

abbrev after_select_core : Kinds
after_select_core = k.Semicolon ∷ k.Limit ∷ k.Order ∷ k.Union ∷ []

abbrev after_select_group_by : Kinds
after_select_group_by = k.Having ∷ after_select_core

abbrev after_select_where : Kinds
after_select_where = k.Group ∷ after_select_group_by

abbrev after_select_column : Kinds
after_select_column = k.Comma ∷ after_select_group_by

abbrev after_select_three_joins : Kinds
after_select_three_joins = k.Where ∷ after_select_where

abbrev after_select_join : Kinds
after_select_join = k.Inner ∷ k.Join ∷ k.Left ∷ after_select_three_joins

abbrev after_script_assigned : Kinds
after_script_assigned = k.CloseBrace ∷ begin_script_statements

abbrev after_select_table : Kinds
after_select_table = k.On ∷ after_select_join

abbrev after_script_block : Kinds
after_script_block = k.Else ∷ after_script_assigned

abbrev after_outermost : Kinds
after_outermost = k.Comma ∷ k.Close ∷ k.OpenBrace ∷ k.As ∷ k.From ∷ k.To ∷ after_select_join

abbrev after_or : Kinds
after_or = k.Else ∷ k.End ∷ k.Then ∷ k.When ∷ after_outermost

abbrev after_and : Kinds
after_and = k.Or ∷ after_or

abbrev after_not : Kinds
after_not = k.And ∷ after_and

abbrev after_joined : Kinds
after_joined = k.Equal ∷ k.NotEqual ∷ k.Less ∷ k.AtMost ∷ k.Greater ∷ k.AtLeast ∷ k.In ∷ k.Is ∷ k.Like ∷ k.Not ∷ after_not

abbrev after_sum : Kinds
after_sum = k.Bars ∷ after_joined

abbrev after_product : Kinds
after_product = k.Plus ∷ k.Minus ∷ after_sum

abbrev after_signed : Kinds
after_signed = k.Star ∷ k.Slash ∷ k.Percent ∷ after_product

abbrev after_name : Kinds
after_name = k.Name ∷ k.TypeWord ∷ k.Point ∷ k.Open ∷ k.Asc ∷ k.Desc ∷ k.On ∷ after_signed

abbrev every : Kinds
every = k.Name ∷ k.TypeWord ∷ k.Whole ∷ k.Decimal ∷ k.Quoted ∷ k.Equal ∷ k.NotEqual ∷ k.Less ∷ k.AtMost ∷ k.Greater ∷ k.AtLeast ∷ k.Bars ∷ k.Plus ∷ k.Minus ∷ k.Star ∷ k.Slash ∷ k.Percent ∷ k.Point ∷ k.Comma ∷ k.Open ∷ k.Close ∷ k.Semicolon ∷ k.OpenBrace ∷ k.CloseBrace ∷ k.Abs ∷ k.All ∷ k.And ∷ k.As ∷ k.Asc ∷ k.By ∷ k.Case ∷ k.Cast ∷ k.Caveat ∷ k.Coalesce ∷ k.Count ∷ k.Desc ∷ k.Distinct ∷ k.Drop ∷ k.Else ∷ k.Emit ∷ k.End ∷ k.Exists ∷ k.False ∷ k.For ∷ k.From ∷ k.Group ∷ k.Having ∷ k.If ∷ k.In ∷ k.Inner ∷ k.Is ∷ k.Join ∷ k.Left ∷ k.Length ∷ k.Like ∷ k.Limit ∷ k.Max ∷ k.Min ∷ k.Not ∷ k.Null ∷ k.On ∷ k.Or ∷ k.Order ∷ k.Outer ∷ k.Print ∷ k.Rows ∷ k.Select ∷ k.Sum ∷ k.Table ∷ k.Then ∷ k.To ∷ k.Trim ∷ k.True ∷ k.Union ∷ k.When ∷ k.Where ∷ k.While ∷ k.Write ∷ k.Stray ∷ []

abbrev expr_firsts : ExprRule → Kinds
expr_firsts e.Outermost = begin_outermost
expr_firsts e.Or = begin_outermost
expr_firsts e.OrTail = k.Or ∷ []
expr_firsts e.And = begin_outermost
expr_firsts e.AndTail = k.And ∷ []
expr_firsts e.Not = begin_outermost
expr_firsts e.Comparison = begin_comparison
expr_firsts e.ComparisonTail = begin_comparison_tail
expr_firsts e.IsTail = k.Not ∷ k.Null ∷ []
expr_firsts e.NotTail = k.In ∷ k.Like ∷ []
expr_firsts e.Joined = begin_comparison
expr_firsts e.JoinedTail = k.Bars ∷ []
expr_firsts e.Sum = begin_comparison
expr_firsts e.SumTail = k.Plus ∷ k.Minus ∷ []
expr_firsts e.Product = begin_comparison
expr_firsts e.ProductTail = k.Star ∷ k.Slash ∷ k.Percent ∷ []
expr_firsts e.Signed = begin_comparison
expr_firsts e.Atom = begin_atom
expr_firsts e.NameTail = k.Point ∷ []
expr_firsts e.Name = k.Name ∷ k.TypeWord ∷ []
expr_firsts e.List = begin_outermost
expr_firsts e.ListTail = k.Comma ∷ []
expr_firsts e.Arm = k.When ∷ []
expr_firsts e.ArmsTail = k.When ∷ []
expr_firsts e.CaseTail = k.Else ∷ k.End ∷ []
expr_firsts e.CountTail = begin_count_tail

abbrev expr_nullable : ExprRule → Bool
expr_nullable e.OrTail = true
expr_nullable e.AndTail = true
expr_nullable e.ComparisonTail = true
expr_nullable e.JoinedTail = true
expr_nullable e.SumTail = true
expr_nullable e.ProductTail = true
expr_nullable e.NameTail = true
expr_nullable e.ListTail = true
expr_nullable e.ArmsTail = true
expr_nullable r = false

abbrev expr_follows : ExprRule → Kinds
expr_follows e.Outermost = after_outermost
expr_follows e.Or = after_or
expr_follows e.OrTail = after_or
expr_follows e.And = after_and
expr_follows e.AndTail = after_and
expr_follows e.Not = after_not
expr_follows e.Comparison = after_not
expr_follows e.ComparisonTail = after_not
expr_follows e.IsTail = after_not
expr_follows e.NotTail = after_not
expr_follows e.Joined = after_joined
expr_follows e.JoinedTail = after_joined
expr_follows e.Sum = after_sum
expr_follows e.SumTail = after_sum
expr_follows e.Product = after_product
expr_follows e.ProductTail = after_product
expr_follows e.Signed = after_signed
expr_follows e.Atom = after_signed
expr_follows e.NameTail = after_signed
expr_follows e.Name = after_name
expr_follows e.List = k.Close ∷ []
expr_follows e.ListTail = k.Close ∷ []
expr_follows e.Arm = k.Else ∷ k.End ∷ k.When ∷ []
expr_follows e.ArmsTail = k.Else ∷ k.End ∷ []
expr_follows e.CaseTail = after_signed
expr_follows e.CountTail = k.Close ∷ []

abbrev select_firsts : SelectRule → Kinds
select_firsts s.Select = k.Select ∷ []
select_firsts s.Core = k.Select ∷ []
select_firsts s.ThreeUnions = k.Union ∷ []
select_firsts s.TwoUnions = k.Union ∷ []
select_firsts s.OneUnion = k.Union ∷ []
select_firsts s.Distinct = k.Distinct ∷ []
select_firsts s.Items = begin_count_tail
select_firsts s.Item = begin_outermost
select_firsts s.ItemName = k.As ∷ []
select_firsts s.ItemsTail = k.Comma ∷ []
select_firsts s.Table = k.Name ∷ k.TypeWord ∷ []
select_firsts s.TableName = k.Name ∷ k.TypeWord ∷ k.As ∷ []
select_firsts s.ThreeJoins = k.Inner ∷ k.Join ∷ k.Left ∷ []
select_firsts s.TwoJoins = k.Inner ∷ k.Join ∷ k.Left ∷ []
select_firsts s.OneJoin = k.Inner ∷ k.Join ∷ k.Left ∷ []
select_firsts s.LeftTail = k.Join ∷ k.Outer ∷ []
select_firsts s.Join = k.Name ∷ k.TypeWord ∷ []
select_firsts s.Where = k.Where ∷ []
select_firsts s.GroupBy = k.Group ∷ []
select_firsts s.Column = k.Name ∷ k.TypeWord ∷ []
select_firsts s.ColumnTail = k.Point ∷ []
select_firsts s.ColumnsTail = k.Comma ∷ []
select_firsts s.Having = k.Having ∷ []
select_firsts s.OrderBy = k.Order ∷ []
select_firsts s.Key = k.Name ∷ k.TypeWord ∷ []
select_firsts s.Direction = k.Asc ∷ k.Desc ∷ []
select_firsts s.KeysTail = k.Comma ∷ []
select_firsts s.Limit = k.Limit ∷ []
select_firsts s.End = k.Semicolon ∷ []

abbrev select_nullable : SelectRule → Bool
select_nullable s.ThreeUnions = true
select_nullable s.TwoUnions = true
select_nullable s.OneUnion = true
select_nullable s.Distinct = true
select_nullable s.ItemName = true
select_nullable s.ItemsTail = true
select_nullable s.TableName = true
select_nullable s.ThreeJoins = true
select_nullable s.TwoJoins = true
select_nullable s.OneJoin = true
select_nullable s.Where = true
select_nullable s.GroupBy = true
select_nullable s.ColumnTail = true
select_nullable s.ColumnsTail = true
select_nullable s.Having = true
select_nullable s.OrderBy = true
select_nullable s.Direction = true
select_nullable s.KeysTail = true
select_nullable s.Limit = true
select_nullable s.End = true
select_nullable r = false

abbrev select_follows : SelectRule → Kinds
select_follows s.Select = []
select_follows s.Core = after_select_core
select_follows s.ThreeUnions = k.Semicolon ∷ k.Limit ∷ k.Order ∷ []
select_follows s.TwoUnions = k.Semicolon ∷ k.Limit ∷ k.Order ∷ []
select_follows s.OneUnion = k.Semicolon ∷ k.Limit ∷ k.Order ∷ []
select_follows s.Distinct = begin_count_tail
select_follows s.Items = k.From ∷ []
select_follows s.Item = k.Comma ∷ k.From ∷ []
select_follows s.ItemName = k.Comma ∷ k.From ∷ []
select_follows s.ItemsTail = k.From ∷ []
select_follows s.Table = after_select_table
select_follows s.TableName = after_select_table
select_follows s.ThreeJoins = after_select_three_joins
select_follows s.TwoJoins = after_select_three_joins
select_follows s.OneJoin = after_select_three_joins
select_follows s.LeftTail = k.Name ∷ k.TypeWord ∷ []
select_follows s.Join = after_select_join
select_follows s.Where = after_select_where
select_follows s.GroupBy = after_select_group_by
select_follows s.Column = after_select_column
select_follows s.ColumnTail = after_select_column
select_follows s.ColumnsTail = after_select_group_by
select_follows s.Having = after_select_core
select_follows s.OrderBy = k.Semicolon ∷ k.Limit ∷ []
select_follows s.Key = k.Comma ∷ k.Semicolon ∷ k.Limit ∷ []
select_follows s.Direction = k.Comma ∷ k.Semicolon ∷ k.Limit ∷ []
select_follows s.KeysTail = k.Semicolon ∷ k.Limit ∷ []
select_follows s.Limit = k.Semicolon ∷ []
select_follows s.End = []

abbrev script_firsts : ScriptRule → Kinds
script_firsts c.Script = begin_script_script
script_firsts c.Builders = k.Table ∷ []
script_firsts c.Column = k.Name ∷ k.TypeWord ∷ []
script_firsts c.ColumnsTail = k.Comma ∷ []
script_firsts c.Statements = begin_script_statements
script_firsts c.Assigned = k.Equal ∷ []
script_firsts c.Source = begin_script_source
script_firsts c.Block = k.OpenBrace ∷ []
script_firsts c.Else = k.Else ∷ []
script_firsts c.Loop = k.Equal ∷ k.In ∷ []
script_firsts c.Target = k.Name ∷ k.TypeWord ∷ k.Open ∷ []
script_firsts c.Values = begin_outermost
script_firsts c.ValuesTail = k.Comma ∷ []

abbrev script_nullable : ScriptRule → Bool
script_nullable c.Script = true
script_nullable c.Builders = true
script_nullable c.ColumnsTail = true
script_nullable c.Statements = true
script_nullable c.Else = true
script_nullable c.ValuesTail = true
script_nullable r = false

abbrev script_follows : ScriptRule → Kinds
script_follows c.Script = []
script_follows c.Builders = begin_script_statements
script_follows c.Column = k.Comma ∷ k.Close ∷ []
script_follows c.ColumnsTail = k.Close ∷ []
script_follows c.Statements = k.CloseBrace ∷ []
script_follows c.Assigned = after_script_assigned
script_follows c.Source = k.Semicolon ∷ []
script_follows c.Block = after_script_block
script_follows c.Else = after_script_assigned
script_follows c.Loop = k.OpenBrace ∷ []
script_follows c.Target = k.OpenBrace ∷ []
script_follows c.Values = k.Close ∷ []
script_follows c.ValuesTail = k.Close ∷ []

abbrev firsts : Rule → Kinds
firsts (rule.Expect kind) = kind ∷ []
firsts (rule.Expr r) = expr_firsts r
firsts (rule.Select r) = select_firsts r
firsts (rule.Script r) = script_firsts r

abbrev nullable : Rule → Bool
nullable (rule.Expect kind) = false
nullable (rule.Expr r) = expr_nullable r
nullable (rule.Select r) = select_nullable r
nullable (rule.Script r) = script_nullable r

abbrev follows : Rule → Kinds
follows (rule.Expect kind) = every
follows (rule.Expr r) = expr_follows r
follows (rule.Select r) = select_follows r
follows (rule.Script r) = script_follows r

abbrev pub hints : Hints Rule
hints = record { firsts = λ r. map code_of (firsts r); nullable = nullable; follows = λ r. map code_of (follows r) }
