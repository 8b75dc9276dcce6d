-- The part of the table that each kind of text has, and the shape of its tree.
use Rattle.std.specs.Prelude.{ℕ, Bool, true, false}
use Rattle.ll1_grammar.specs.Pieces.{Part}
use Rattle.notebook_grammar.specs.declared.rule.Rule.{Rule}
use Rattle.notebook_grammar.specs.declared.rule.Rule.TheVariants as rule
use Rattle.notebook_grammar.specs.declared.action.Action.{Action}
use Rattle.notebook_grammar.specs.declared.action.Action.TheVariants as act
use Rattle.notebook_grammar.specs.declared.start.Start.{Start}
use Rattle.notebook_grammar.specs.declared.start.Start.TheVariants as start
use Rattle.notebook_grammar.specs.Shapes.{tree, select, script}

-- the rules that a text of each kind is made of
abbrev pub is_rule_of : Start → Rule → Bool
is_rule_of text (rule.Expect kind) = true
is_rule_of text (rule.Expr r) = true
is_rule_of start.Select (rule.Select r) = true
is_rule_of start.Script (rule.Script r) = true
is_rule_of text r = false

-- the actions that come in it
abbrev pub is_action_of : Start → Action → Bool
is_action_of text (act.Expr a) = true
is_action_of start.Select (act.Select a) = true
is_action_of start.Script (act.Script a) = true
is_action_of text a = false

-- the part of the table for each kind of text
abbrev pub part_of : Start → Part Rule Action
part_of text = record { rules = is_rule_of text; actions = is_action_of text }

-- the shape of a whole text
abbrev pub shape_of : Start → ℕ
shape_of start.Expression = tree
shape_of start.Select = select
shape_of start.Script = script
