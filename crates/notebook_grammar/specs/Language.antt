-- The one grammar of expressions, SELECT and scripts.
use Rattle.std.specs.Prelude.{ℕ, List, [], ◌∷◌, Option, None}
use Rattle.ll1_grammar.specs.declared.symbol.Symbol.{Symbol}
use Rattle.ll1_grammar.specs.declared.symbol.Symbol.TheVariants.{Nonterminal}
use Rattle.ll1_grammar.specs.declared.item.Bounded.{Bounded}
use Rattle.ll1_grammar.specs.declared.symbol.Step.{Step}
use Rattle.ll1_grammar.specs.Grammar.{Grammar}
use Rattle.ll1_grammar.specs.Table.{Table, grammar_of}
use Rattle.notebook_grammar.specs.declared.rule.Rule.{Rule}
use Rattle.notebook_grammar.specs.declared.rule.Rule.TheVariants as rule
use Rattle.notebook_grammar.specs.declared.rule.ExprRule.TheVariants as e
use Rattle.notebook_grammar.specs.declared.rule.SelectRule.TheVariants as s
use Rattle.notebook_grammar.specs.declared.rule.ScriptRule.TheVariants as c
use Rattle.notebook_grammar.specs.declared.start.Start.{Start}
use Rattle.notebook_grammar.specs.declared.start.Start.TheVariants as start
use Rattle.notebook_grammar.specs.declared.action.Action.{Action}
use Rattle.notebook_grammar.specs.declared.lexeme.Lexeme.{Lexeme}
use Rattle.notebook_grammar.specs.Kinds.{code_of}
use Rattle.notebook_grammar.specs.Rows.{Items, on}
use Rattle.notebook_grammar.specs.Expressions as expressions
use Rattle.notebook_grammar.specs.Selects as selects
use Rattle.notebook_grammar.specs.Scripts as scripts

-- what comes after a token with which the rule begins
abbrev pub alternatives : Rule → List (ℕ × Items)
alternatives (rule.Expect kind) = on kind [] ∷ []
alternatives (rule.Expr r) = expressions.alternatives r
alternatives (rule.Select r) = selects.alternatives r
alternatives (rule.Script r) = scripts.alternatives r

-- the right-hand side that begins with no token of its own
abbrev pub otherwise : Rule → Option Items
otherwise (rule.Expect kind) = None
otherwise (rule.Expr r) = expressions.otherwise r
otherwise (rule.Select r) = selects.otherwise r
otherwise (rule.Script r) = scripts.otherwise r

-- the rules of all three languages
abbrev pub table : Table Rule Action
table = record { alternatives = alternatives; otherwise = otherwise }

-- the kind of a lexeme, as a number
abbrev pub kind_code : Lexeme → ℕ
kind_code l = code_of l.kind

-- the grammar; each nonterminal is a rule with the number of levels that may still open in it
unfoldable pub language : Grammar (Bounded Rule) Lexeme Action
language = grammar_of table kind_code

-- what a sentence is to be
abbrev pub Symbols : Type 0
Symbols = List (Symbol (Bounded Rule) Action)

-- the steps of a derivation
abbrev pub Steps : Type 0
Steps = List (Step Lexeme Action)

-- a rule with so many levels
abbrev pub at_room : Rule → ℕ → Bounded Rule
at_room r room = record { rule = r; room = room }

-- the rule that a whole text is
abbrev pub rule_of : Start → Rule
rule_of start.Expression = rule.Expr e.Outermost
rule_of start.Select = rule.Select s.Select
rule_of start.Script = rule.Script c.Script

-- the start of a text: at most 64 levels are open at any place
abbrev pub start_of : Start → Symbols
start_of whole = Nonterminal (at_room (rule_of whole) 64) ∷ []
