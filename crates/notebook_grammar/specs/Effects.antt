-- What rules and actions do to the stack of pieces.
use Rattle.std.specs.Prelude.{[], ◌∷◌}
use Rattle.ll1_grammar.specs.Pieces.{Shapes, Effects}
use Rattle.notebook_grammar.specs.declared.rule.Rule.{Rule}
use Rattle.notebook_grammar.specs.declared.rule.Rule.TheVariants as rule
use Rattle.notebook_grammar.specs.declared.rule.ExprRule.{ExprRule}
use Rattle.notebook_grammar.specs.declared.rule.ExprRule.TheVariants as e
use Rattle.notebook_grammar.specs.declared.rule.SelectRule.{SelectRule}
use Rattle.notebook_grammar.specs.declared.rule.SelectRule.TheVariants as s
use Rattle.notebook_grammar.specs.declared.rule.ScriptRule.{ScriptRule}
use Rattle.notebook_grammar.specs.declared.rule.ScriptRule.TheVariants as c
use Rattle.notebook_grammar.specs.declared.action.Action.{Action}
use Rattle.notebook_grammar.specs.declared.action.Action.TheVariants as act
use Rattle.notebook_grammar.specs.declared.action.ExprAction.{ExprAction}
use Rattle.notebook_grammar.specs.declared.action.ExprAction.TheVariants as e_act
use Rattle.notebook_grammar.specs.declared.action.SelectAction.{SelectAction}
use Rattle.notebook_grammar.specs.declared.action.SelectAction.TheVariants as s_act
use Rattle.notebook_grammar.specs.declared.action.ScriptAction.{ScriptAction}
use Rattle.notebook_grammar.specs.declared.action.ScriptAction.TheVariants as c_act
use Rattle.notebook_grammar.specs.Kinds.{code_of}
use Rattle.notebook_grammar.specs.Shapes.{token, name, type_word, whole, decimal, quoted, call, tree, list, arms, distinct, items, table, joins, condition, columns, cores, keys, limit, select, builders, definitions, block, loop, script}

-- what a rule of expressions finds on top
abbrev pub expr_needs : ExprRule → Shapes
expr_needs e.OrTail = tree ∷ []
expr_needs e.AndTail = tree ∷ []
expr_needs e.ComparisonTail = tree ∷ []
expr_needs e.IsTail = tree ∷ []
expr_needs e.NotTail = tree ∷ []
expr_needs e.JoinedTail = tree ∷ []
expr_needs e.SumTail = tree ∷ []
expr_needs e.ProductTail = tree ∷ []
expr_needs e.NameTail = name ∷ []
expr_needs e.ListTail = list ∷ []
expr_needs e.Arm = arms ∷ []
expr_needs e.ArmsTail = arms ∷ []
expr_needs e.CaseTail = arms ∷ []
expr_needs r = []

-- what a rule of SELECT finds on top
abbrev pub select_needs : SelectRule → Shapes
select_needs s.Core = cores ∷ []
select_needs s.ThreeUnions = cores ∷ []
select_needs s.TwoUnions = cores ∷ []
select_needs s.OneUnion = cores ∷ []
select_needs s.Item = items ∷ []
select_needs s.ItemName = tree ∷ items ∷ []
select_needs s.ItemsTail = items ∷ []
select_needs s.TableName = name ∷ []
select_needs s.ThreeJoins = joins ∷ []
select_needs s.TwoJoins = joins ∷ []
select_needs s.OneJoin = joins ∷ []
select_needs s.Column = columns ∷ []
select_needs s.ColumnTail = name ∷ columns ∷ []
select_needs s.ColumnsTail = columns ∷ []
select_needs s.Key = keys ∷ []
select_needs s.Direction = name ∷ keys ∷ []
select_needs s.KeysTail = keys ∷ []
select_needs r = []

-- what a rule of scripts finds on top
abbrev pub script_needs : ScriptRule → Shapes
script_needs c.Builders = builders ∷ []
script_needs c.Column = definitions ∷ []
script_needs c.ColumnsTail = definitions ∷ []
script_needs c.Statements = block ∷ []
script_needs c.Assigned = name ∷ block ∷ []
script_needs c.Source = name ∷ block ∷ []
script_needs c.Else = block ∷ tree ∷ block ∷ []
script_needs c.ValuesTail = list ∷ []
script_needs r = []

-- what it leaves in its place
abbrev pub expr_leaves : ExprRule → Shapes
expr_leaves e.Name = name ∷ []
expr_leaves e.List = list ∷ []
expr_leaves e.ListTail = list ∷ []
expr_leaves e.Arm = arms ∷ []
expr_leaves e.ArmsTail = arms ∷ []
expr_leaves r = tree ∷ []

-- what it leaves in its place
abbrev pub select_leaves : SelectRule → Shapes
select_leaves s.Select = select ∷ []
select_leaves s.Distinct = distinct ∷ []
select_leaves s.Items = items ∷ []
select_leaves s.Item = items ∷ []
select_leaves s.ItemName = items ∷ []
select_leaves s.ItemsTail = items ∷ []
select_leaves s.Table = table ∷ []
select_leaves s.TableName = table ∷ []
select_leaves s.ThreeJoins = joins ∷ []
select_leaves s.TwoJoins = joins ∷ []
select_leaves s.OneJoin = joins ∷ []
select_leaves s.LeftTail = []
select_leaves s.Join = tree ∷ table ∷ []
select_leaves s.Where = condition ∷ []
select_leaves s.GroupBy = columns ∷ []
select_leaves s.Column = columns ∷ []
select_leaves s.ColumnTail = columns ∷ []
select_leaves s.ColumnsTail = columns ∷ []
select_leaves s.Having = condition ∷ []
select_leaves s.OrderBy = keys ∷ []
select_leaves s.Key = keys ∷ []
select_leaves s.Direction = keys ∷ []
select_leaves s.KeysTail = keys ∷ []
select_leaves s.Limit = limit ∷ []
select_leaves s.End = []
select_leaves r = cores ∷ []

-- what it leaves in its place
abbrev pub script_leaves : ScriptRule → Shapes
script_leaves c.Script = script ∷ []
script_leaves c.Builders = builders ∷ []
script_leaves c.Column = definitions ∷ []
script_leaves c.ColumnsTail = definitions ∷ []
script_leaves c.Loop = loop ∷ []
script_leaves c.Target = loop ∷ []
script_leaves c.Values = list ∷ []
script_leaves c.ValuesTail = list ∷ []
script_leaves r = block ∷ []

-- what an action of expressions takes, the topmost first
abbrev pub expr_pops : ExprAction → Shapes
expr_pops e_act.Begin = []
expr_pops e_act.End = []
expr_pops e_act.Not = tree ∷ []
expr_pops e_act.In = list ∷ tree ∷ []
expr_pops e_act.IsNull = tree ∷ []
expr_pops e_act.IsNotNull = tree ∷ []
expr_pops e_act.NotIn = list ∷ tree ∷ []
expr_pops e_act.Minus = tree ∷ []
expr_pops e_act.TypeAsName = type_word ∷ []
expr_pops e_act.Whole = whole ∷ []
expr_pops e_act.Decimal = decimal ∷ []
expr_pops e_act.Quoted = quoted ∷ []
expr_pops e_act.True = []
expr_pops e_act.False = []
expr_pops e_act.Null = []
expr_pops e_act.BeginArms = []
expr_pops e_act.Coalesce = list ∷ []
expr_pops e_act.Cast = type_word ∷ tree ∷ []
expr_pops e_act.Caveat = quoted ∷ tree ∷ call ∷ []
expr_pops e_act.Length = tree ∷ []
expr_pops e_act.Trim = tree ∷ []
expr_pops e_act.Abs = tree ∷ []
expr_pops e_act.Sum = tree ∷ []
expr_pops e_act.Min = tree ∷ []
expr_pops e_act.Max = tree ∷ []
expr_pops e_act.Qualified = name ∷ name ∷ []
expr_pops e_act.Bare = name ∷ []
expr_pops e_act.BeginList = []
expr_pops e_act.Entry = tree ∷ list ∷ []
expr_pops e_act.Arm = tree ∷ tree ∷ arms ∷ []
expr_pops e_act.CaseElse = tree ∷ arms ∷ []
expr_pops e_act.Case = arms ∷ []
expr_pops e_act.CountAll = []
expr_pops e_act.Count = tree ∷ []
expr_pops a = tree ∷ tree ∷ []

-- what an action of SELECT takes, the topmost first
abbrev pub select_pops : SelectAction → Shapes
select_pops s_act.Select = limit ∷ keys ∷ cores ∷ []
select_pops s_act.Core = condition ∷ columns ∷ condition ∷ joins ∷ table ∷ items ∷ distinct ∷ cores ∷ []
select_pops s_act.NamedItem = name ∷ tree ∷ items ∷ []
select_pops s_act.PlainItem = tree ∷ items ∷ []
select_pops s_act.NamedTable = name ∷ name ∷ []
select_pops s_act.PlainTable = name ∷ []
select_pops s_act.InnerJoin = tree ∷ table ∷ joins ∷ []
select_pops s_act.LeftJoin = tree ∷ table ∷ joins ∷ []
select_pops s_act.Condition = tree ∷ []
select_pops s_act.QualifiedColumn = name ∷ name ∷ columns ∷ []
select_pops s_act.BareColumn = name ∷ columns ∷ []
select_pops s_act.Ascending = name ∷ keys ∷ []
select_pops s_act.Descending = name ∷ keys ∷ []
select_pops s_act.Limit = whole ∷ []
select_pops a = []

-- what an action of scripts takes, the topmost first
abbrev pub script_pops : ScriptAction → Shapes
script_pops c_act.Script = block ∷ builders ∷ []
script_pops c_act.Builder = definitions ∷ name ∷ builders ∷ []
script_pops c_act.Column = type_word ∷ name ∷ definitions ∷ []
script_pops c_act.Print = tree ∷ block ∷ []
script_pops c_act.While = block ∷ tree ∷ block ∷ []
script_pops c_act.For = block ∷ loop ∷ name ∷ block ∷ []
script_pops c_act.Emit = list ∷ name ∷ block ∷ []
script_pops c_act.Write = name ∷ name ∷ block ∷ []
script_pops c_act.Drop = name ∷ block ∷ []
script_pops c_act.Exists = tree ∷ name ∷ block ∷ []
script_pops c_act.Rows = tree ∷ name ∷ block ∷ []
script_pops c_act.Assign = tree ∷ name ∷ block ∷ []
script_pops c_act.IfElse = block ∷ block ∷ tree ∷ block ∷ []
script_pops c_act.If = block ∷ tree ∷ block ∷ []
script_pops c_act.Range = tree ∷ tree ∷ []
script_pops c_act.Named = name ∷ []
script_pops c_act.Computed = tree ∷ []
script_pops a = []

-- what it makes of them
abbrev pub expr_pushes : ExprAction → Shapes
expr_pushes e_act.Begin = []
expr_pushes e_act.End = []
expr_pushes e_act.TypeAsName = name ∷ []
expr_pushes e_act.BeginArms = arms ∷ []
expr_pushes e_act.BeginList = list ∷ []
expr_pushes e_act.Entry = list ∷ []
expr_pushes e_act.Arm = arms ∷ []
expr_pushes a = tree ∷ []

-- what it makes of them
abbrev pub select_pushes : SelectAction → Shapes
select_pushes s_act.BeginCores = cores ∷ []
select_pushes s_act.Select = select ∷ []
select_pushes s_act.BeginJoins = joins ∷ []
select_pushes s_act.Core = cores ∷ []
select_pushes s_act.Distinct = distinct ∷ []
select_pushes s_act.NotDistinct = distinct ∷ []
select_pushes s_act.NamedTable = table ∷ []
select_pushes s_act.PlainTable = table ∷ []
select_pushes s_act.InnerJoin = joins ∷ []
select_pushes s_act.LeftJoin = joins ∷ []
select_pushes s_act.Condition = condition ∷ []
select_pushes s_act.NoCondition = condition ∷ []
select_pushes s_act.BeginColumns = columns ∷ []
select_pushes s_act.QualifiedColumn = columns ∷ []
select_pushes s_act.BareColumn = columns ∷ []
select_pushes s_act.BeginKeys = keys ∷ []
select_pushes s_act.Ascending = keys ∷ []
select_pushes s_act.Descending = keys ∷ []
select_pushes s_act.Limit = limit ∷ []
select_pushes s_act.NoLimit = limit ∷ []
select_pushes a = items ∷ []

-- what it makes of them
abbrev pub script_pushes : ScriptAction → Shapes
script_pushes c_act.BeginBuilders = builders ∷ []
script_pushes c_act.Script = script ∷ []
script_pushes c_act.BeginColumns = definitions ∷ []
script_pushes c_act.Builder = builders ∷ []
script_pushes c_act.Column = definitions ∷ []
script_pushes c_act.Range = loop ∷ []
script_pushes c_act.Named = loop ∷ []
script_pushes c_act.Computed = loop ∷ []
script_pushes a = block ∷ []

-- what a rule finds on top
abbrev pub needs : Rule → Shapes
needs (rule.Expect kind) = []
needs (rule.Expr r) = expr_needs r
needs (rule.Select r) = select_needs r
needs (rule.Script r) = script_needs r

-- what it leaves in its place
abbrev pub leaves : Rule → Shapes
leaves (rule.Expect kind) = token (code_of kind)
leaves (rule.Expr r) = expr_leaves r
leaves (rule.Select r) = select_leaves r
leaves (rule.Script r) = script_leaves r

-- what an action takes
abbrev pub pops : Action → Shapes
pops (act.Expr a) = expr_pops a
pops (act.Select a) = select_pops a
pops (act.Script a) = script_pops a

-- what it makes of them
abbrev pub pushes : Action → Shapes
pushes (act.Expr a) = expr_pushes a
pushes (act.Select a) = select_pushes a
pushes (act.Script a) = script_pushes a

-- all of it
abbrev pub shapes : Effects Rule Action
shapes = record { needs = needs; leaves = leaves; pops = pops; pushes = pushes; token = token }
