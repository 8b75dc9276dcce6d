-- How the tables of rules are written.
use Rattle.std.specs.Prelude.{◌≡◌, ℕ, List, Option, Some, None}
use Rattle.std.specs.Borrow.{Bor}
use Rattle.ll1_grammar.specs.declared.item.Item.{Item}
use Rattle.ll1_grammar.specs.declared.item.Item.TheVariants.{Here, Inside, Do}
use Rattle.notebook_grammar.specs.declared.kind.Kind.{Kind}
use Rattle.notebook_grammar.specs.declared.rule.Rule.{Rule}
use Rattle.notebook_grammar.specs.declared.rule.Rule.TheVariants as rule
use Rattle.notebook_grammar.specs.declared.rule.ExprRule.{ExprRule}
use Rattle.notebook_grammar.specs.declared.rule.SelectRule.{SelectRule}
use Rattle.notebook_grammar.specs.declared.rule.ScriptRule.{ScriptRule}
use Rattle.notebook_grammar.specs.declared.action.Action.{Action}
use Rattle.notebook_grammar.specs.declared.action.Action.TheVariants as act
use Rattle.notebook_grammar.specs.declared.action.ExprAction.{ExprAction}
use Rattle.notebook_grammar.specs.declared.action.SelectAction.{SelectAction}
use Rattle.notebook_grammar.specs.declared.action.ScriptAction.{ScriptAction}
use Rattle.notebook_grammar.specs.declared.row.Entry.{Entry}
use Rattle.notebook_grammar.specs.Kinds.{code_of}

-- a right-hand side without its token
abbrev pub Items : Type 0
Items = List (Item Rule Action)

-- an alternative: what comes after a token of the kind
abbrev pub on : Kind → Items → ℕ × Items
on kind items = (code_of kind, items)

-- a token of the kind
abbrev pub token : Kind → Item Rule Action
token kind = Here (rule.Expect kind)

-- a rule of expressions, one that is a level further in, and an action
abbrev pub expr : ExprRule → Item Rule Action
expr r = Here (rule.Expr r)

abbrev pub expr_in : ExprRule → Item Rule Action
expr_in r = Inside (rule.Expr r)

abbrev pub expr_do : ExprAction → Item Rule Action
expr_do a = Do (act.Expr a)

-- the same of SELECT
abbrev pub select : SelectRule → Item Rule Action
select r = Here (rule.Select r)

abbrev pub select_do : SelectAction → Item Rule Action
select_do a = Do (act.Select a)

-- the same of scripts
abbrev pub script : ScriptRule → Item Rule Action
script r = Here (rule.Script r)

abbrev pub script_in : ScriptRule → Item Rule Action
script_in r = Inside (rule.Script r)

abbrev pub script_do : ScriptAction → Item Rule Action
script_do a = Do (act.Script a)

-- an alternative of the code
abbrev pub shown : Entry → ℕ × Items
shown entry = (code_of entry.kind, entry.items.now)

-- the code's answer is these items, or none where there are none
abbrev pub Shows : Option (Bor Items) → Option Items → Type 0
Shows None found = found ≡ None
Shows (Some s) found = found ≡ Some s.now
