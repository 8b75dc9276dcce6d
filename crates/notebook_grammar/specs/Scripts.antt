-- The rules of scripts, a line for each right-hand side.
--
-- script := {TABLE name ( name type {, name type} ) ;} {statement}
-- statement := name = source ; | PRINT outermost ; | IF outermost block [ELSE block]
--   | WHILE outermost block | FOR name loop block | EMIT name ( outermost {, outermost} ) ;
--   | WRITE name AS name ; | DROP name ;
-- source := outermost | EXISTS outermost | ROWS outermost
-- loop := IN name | IN ( outermost ) | = outermost TO outermost
-- block := { {statement} }
--
-- A level is opened by a block, by the parentheses of EMIT and by those after IN; a statement with one
-- is refused at its first word where no level is left.
use Rattle.std.specs.Prelude.{ℕ, List, [], ◌∷◌, Option, Some, None}
use Rattle.notebook_grammar.specs.declared.kind.Kind.TheVariants as k
use Rattle.notebook_grammar.specs.declared.rule.ScriptRule.{ScriptRule}
use Rattle.notebook_grammar.specs.declared.rule.ExprRule.TheVariants as e
use Rattle.notebook_grammar.specs.declared.rule.ScriptRule.TheVariants as c
use Rattle.notebook_grammar.specs.declared.action.ExprAction.TheVariants as e_act
use Rattle.notebook_grammar.specs.declared.action.ScriptAction.TheVariants as c_act
use Rattle.notebook_grammar.specs.Rows.{Items, on, expr, expr_do, expr_in, script, script_do, script_in, token}

-- what comes after a token with which the rule begins
abbrev pub alternatives : ScriptRule → List (ℕ × Items)
alternatives c.Builders = on k.Table (expr e.Name ∷ token k.Open ∷ script_do c_act.BeginColumns ∷ script c.Column ∷ script c.ColumnsTail ∷ token k.Close ∷ token k.Semicolon ∷ script_do c_act.Builder ∷ script c.Builders ∷ []) ∷ []
alternatives c.ColumnsTail = on k.Comma (script c.Column ∷ script c.ColumnsTail ∷ []) ∷ []
alternatives c.Statements =
    on k.Name (script c.Assigned ∷ script c.Statements ∷ [])
    ∷ on k.TypeWord (expr_do e_act.TypeAsName ∷ script c.Assigned ∷ script c.Statements ∷ [])
    ∷ on k.Print (expr e.Outermost ∷ token k.Semicolon ∷ script_do c_act.Print ∷ script c.Statements ∷ [])
    ∷ on k.If (expr e.Outermost ∷ script_in c.Block ∷ script_in c.Else ∷ script c.Statements ∷ [])
    ∷ on k.While (expr e.Outermost ∷ script_in c.Block ∷ script_do c_act.While ∷ script c.Statements ∷ [])
    ∷ on k.For (expr e.Name ∷ script c.Loop ∷ script_in c.Block ∷ script_do c_act.For ∷ script c.Statements ∷ [])
    ∷ on k.Emit (expr e.Name ∷ token k.Open ∷ script_in c.Values ∷ token k.Close ∷ token k.Semicolon ∷ script_do c_act.Emit ∷ script c.Statements ∷ [])
    ∷ on k.Write (expr e.Name ∷ token k.As ∷ expr e.Name ∷ token k.Semicolon ∷ script_do c_act.Write ∷ script c.Statements ∷ [])
    ∷ on k.Drop (expr e.Name ∷ token k.Semicolon ∷ script_do c_act.Drop ∷ script c.Statements ∷ [])
    ∷ []
alternatives c.Assigned = on k.Equal (script c.Source ∷ token k.Semicolon ∷ []) ∷ []
alternatives c.Source =
    on k.Exists (expr e.Outermost ∷ script_do c_act.Exists ∷ [])
    ∷ on k.Rows (expr e.Outermost ∷ script_do c_act.Rows ∷ [])
    ∷ []
alternatives c.Block = on k.OpenBrace (script_do c_act.BeginBlock ∷ script c.Statements ∷ token k.CloseBrace ∷ []) ∷ []
alternatives c.Else = on k.Else (script c.Block ∷ script_do c_act.IfElse ∷ []) ∷ []
alternatives c.Loop =
    on k.In (script c.Target ∷ [])
    ∷ on k.Equal (expr e.Outermost ∷ token k.To ∷ expr e.Outermost ∷ script_do c_act.Range ∷ [])
    ∷ []
alternatives c.Target =
    on k.Name (script_do c_act.Named ∷ [])
    ∷ on k.TypeWord (expr_do e_act.TypeAsName ∷ script_do c_act.Named ∷ [])
    ∷ on k.Open (expr_in e.Outermost ∷ token k.Close ∷ script_do c_act.Computed ∷ [])
    ∷ []
alternatives c.ValuesTail = on k.Comma (expr e.Outermost ∷ expr_do e_act.Entry ∷ script c.ValuesTail ∷ []) ∷ []
alternatives r = []

-- the right-hand side that begins with no token of its own
abbrev pub otherwise : ScriptRule → Option Items
otherwise c.Script = Some (script_do c_act.BeginBuilders ∷ script c.Builders ∷ script_do c_act.BeginBlock ∷ script c.Statements ∷ script_do c_act.Script ∷ [])
otherwise c.Builders = Some []
otherwise c.Column = Some (expr e.Name ∷ token k.TypeWord ∷ script_do c_act.Column ∷ [])
otherwise c.ColumnsTail = Some []
otherwise c.Statements = Some []
otherwise c.Source = Some (expr e.Outermost ∷ script_do c_act.Assign ∷ [])
otherwise c.Else = Some (script_do c_act.If ∷ [])
otherwise c.Values = Some (expr_do e_act.BeginList ∷ expr e.Outermost ∷ expr_do e_act.Entry ∷ script c.ValuesTail ∷ [])
otherwise c.ValuesTail = Some []
otherwise r = None
