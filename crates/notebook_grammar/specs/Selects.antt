-- The rules of SELECT, a line for each right-hand side.
--
-- select := core {UNION ALL core} [ORDER BY key {, key}] [LIMIT digits] [;]      at most 4 cores
-- core := SELECT [DISTINCT] items FROM table {join} [WHERE outermost]            at most 3 joins
--   [GROUP BY column {, column}] [HAVING outermost]
-- items := * | outermost [AS name] {, outermost [AS name]}
-- table := name [[AS] name]               column := name [. name]      key := name [ASC | DESC]
-- join := [INNER] JOIN table ON outermost | LEFT [OUTER] JOIN table ON outermost
use Rattle.std.specs.Prelude.{ℕ, List, [], ◌∷◌, Option, Some, None}
use Rattle.notebook_grammar.specs.declared.kind.Kind.TheVariants as k
use Rattle.notebook_grammar.specs.declared.rule.SelectRule.{SelectRule}
use Rattle.notebook_grammar.specs.declared.rule.ExprRule.TheVariants as e
use Rattle.notebook_grammar.specs.declared.rule.SelectRule.TheVariants as s
use Rattle.notebook_grammar.specs.declared.action.ExprAction.TheVariants as e_act
use Rattle.notebook_grammar.specs.declared.action.SelectAction.TheVariants as s_act
use Rattle.notebook_grammar.specs.Rows.{Items, on, expr, expr_do, select, select_do, token}

-- what comes after a token with which the rule begins
abbrev pub alternatives : SelectRule → List (ℕ × Items)
alternatives s.Core = on k.Select (select s.Distinct ∷ select s.Items ∷ token k.From ∷ select s.Table ∷ select_do s_act.BeginJoins ∷ select s.ThreeJoins ∷ select s.Where ∷ select s.GroupBy ∷ select s.Having ∷ select_do s_act.Core ∷ []) ∷ []
alternatives s.ThreeUnions = on k.Union (token k.All ∷ select s.Core ∷ select s.TwoUnions ∷ []) ∷ []
alternatives s.TwoUnions = on k.Union (token k.All ∷ select s.Core ∷ select s.OneUnion ∷ []) ∷ []
alternatives s.OneUnion = on k.Union (token k.All ∷ select s.Core ∷ []) ∷ []
alternatives s.Distinct = on k.Distinct (select_do s_act.Distinct ∷ []) ∷ []
alternatives s.Items = on k.Star (select_do s_act.AllItems ∷ []) ∷ []
alternatives s.ItemName = on k.As (expr e.Name ∷ select_do s_act.NamedItem ∷ []) ∷ []
alternatives s.ItemsTail = on k.Comma (select s.Item ∷ select s.ItemsTail ∷ []) ∷ []
alternatives s.TableName =
    on k.As (expr e.Name ∷ select_do s_act.NamedTable ∷ [])
    ∷ on k.Name (select_do s_act.NamedTable ∷ [])
    ∷ on k.TypeWord (expr_do e_act.TypeAsName ∷ select_do s_act.NamedTable ∷ [])
    ∷ []
alternatives s.ThreeJoins =
    on k.Inner (token k.Join ∷ select s.Join ∷ select_do s_act.InnerJoin ∷ select s.TwoJoins ∷ [])
    ∷ on k.Join (select s.Join ∷ select_do s_act.InnerJoin ∷ select s.TwoJoins ∷ [])
    ∷ on k.Left (select s.LeftTail ∷ select s.Join ∷ select_do s_act.LeftJoin ∷ select s.TwoJoins ∷ [])
    ∷ []
alternatives s.TwoJoins =
    on k.Inner (token k.Join ∷ select s.Join ∷ select_do s_act.InnerJoin ∷ select s.OneJoin ∷ [])
    ∷ on k.Join (select s.Join ∷ select_do s_act.InnerJoin ∷ select s.OneJoin ∷ [])
    ∷ on k.Left (select s.LeftTail ∷ select s.Join ∷ select_do s_act.LeftJoin ∷ select s.OneJoin ∷ [])
    ∷ []
alternatives s.OneJoin =
    on k.Inner (token k.Join ∷ select s.Join ∷ select_do s_act.InnerJoin ∷ [])
    ∷ on k.Join (select s.Join ∷ select_do s_act.InnerJoin ∷ [])
    ∷ on k.Left (select s.LeftTail ∷ select s.Join ∷ select_do s_act.LeftJoin ∷ [])
    ∷ []
alternatives s.LeftTail =
    on k.Outer (token k.Join ∷ [])
    ∷ on k.Join []
    ∷ []
alternatives s.Where = on k.Where (expr e.Outermost ∷ select_do s_act.Condition ∷ []) ∷ []
alternatives s.GroupBy = on k.Group (token k.By ∷ select_do s_act.BeginColumns ∷ select s.Column ∷ select s.ColumnsTail ∷ []) ∷ []
alternatives s.ColumnTail = on k.Point (expr e.Name ∷ select_do s_act.QualifiedColumn ∷ []) ∷ []
alternatives s.ColumnsTail = on k.Comma (select s.Column ∷ select s.ColumnsTail ∷ []) ∷ []
alternatives s.Having = on k.Having (expr e.Outermost ∷ select_do s_act.Condition ∷ []) ∷ []
alternatives s.OrderBy = on k.Order (token k.By ∷ select_do s_act.BeginKeys ∷ select s.Key ∷ select s.KeysTail ∷ []) ∷ []
alternatives s.Direction =
    on k.Asc (select_do s_act.Ascending ∷ [])
    ∷ on k.Desc (select_do s_act.Descending ∷ [])
    ∷ []
alternatives s.KeysTail = on k.Comma (select s.Key ∷ select s.KeysTail ∷ []) ∷ []
alternatives s.Limit = on k.Limit (token k.Whole ∷ select_do s_act.Limit ∷ []) ∷ []
alternatives s.End = on k.Semicolon [] ∷ []
alternatives r = []

-- the right-hand side that begins with no token of its own
abbrev pub otherwise : SelectRule → Option Items
otherwise s.Select = Some (select_do s_act.BeginCores ∷ select s.Core ∷ select s.ThreeUnions ∷ select s.OrderBy ∷ select s.Limit ∷ select s.End ∷ select_do s_act.Select ∷ [])
otherwise s.ThreeUnions = Some []
otherwise s.TwoUnions = Some []
otherwise s.OneUnion = Some []
otherwise s.Distinct = Some (select_do s_act.NotDistinct ∷ [])
otherwise s.Items = Some (select_do s_act.BeginItems ∷ select s.Item ∷ select s.ItemsTail ∷ [])
otherwise s.Item = Some (expr e.Outermost ∷ select s.ItemName ∷ [])
otherwise s.ItemName = Some (select_do s_act.PlainItem ∷ [])
otherwise s.ItemsTail = Some []
otherwise s.Table = Some (expr e.Name ∷ select s.TableName ∷ [])
otherwise s.TableName = Some (select_do s_act.PlainTable ∷ [])
otherwise s.ThreeJoins = Some []
otherwise s.TwoJoins = Some []
otherwise s.OneJoin = Some []
otherwise s.Join = Some (select s.Table ∷ token k.On ∷ expr e.Outermost ∷ [])
otherwise s.Where = Some (select_do s_act.NoCondition ∷ [])
otherwise s.GroupBy = Some (select_do s_act.BeginColumns ∷ [])
otherwise s.Column = Some (expr e.Name ∷ select s.ColumnTail ∷ [])
otherwise s.ColumnTail = Some (select_do s_act.BareColumn ∷ [])
otherwise s.ColumnsTail = Some []
otherwise s.Having = Some (select_do s_act.NoCondition ∷ [])
otherwise s.OrderBy = Some (select_do s_act.BeginKeys ∷ [])
otherwise s.Key = Some (expr e.Name ∷ select s.Direction ∷ [])
otherwise s.Direction = Some (select_do s_act.Ascending ∷ [])
otherwise s.KeysTail = Some []
otherwise s.Limit = Some (select_do s_act.NoLimit ∷ [])
otherwise s.End = Some []
otherwise r = None
