-- What holds of the text of an expression.
use Rattle.std.specs.Prelude.{◌≡◌, ◌⊎◌, Result, Ok, Err, MatchResult}
use Rattle.notebook_grammar.specs.declared.fault.ParseFault.{ParseFault}
use Rattle.notebook_grammar.specs.declared.fault.ParseFault.TheVariants.{NoMemory}
use Rattle.notebook_grammar.specs.declared.start.Start.TheVariants.{Expression}
use Rattle.notebook_grammar.specs.Texts.{IsRefused}
use Rattle.expr_lang.specs.declared.expr.Expr.{Expr}
use Rattle.expr_parse.specs.Trees.{IsTreeOf}
use Rattle.expr_print.specs.Tokens.{printed}
use Rattle.expr_print.specs.Printable.{IsPrintable}

-- what `parse_expr` may answer for the text of an expression
abbrev pub IsAnswer : Expr → Result Expr ParseFault → Type 0
IsAnswer e answer = MatchResult answer (IsTreeOf (printed e)) (IsRefused Expression (printed e))

-- the text of a printable expression has its tree, and `parse_expr` answers no other, but for want of memory
abbrev pub PrintsAndParses : Type 0
PrintsAndParses = (e : Expr) → IsPrintable e
    → IsTreeOf (printed e) e
    × ((answer : Result Expr ParseFault) → IsAnswer e answer → (answer ≡ Ok e) ⊎ (answer ≡ Err NoMemory))
