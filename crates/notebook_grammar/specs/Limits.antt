-- When lexemes are a text of the language: a sentence whose expressions have at most 1,000 tokens each.
use Rattle.std.specs.Prelude.{◌≡◌, ℕ, ◌+◌, ◌<◌, ◌==◌, ◌⊎◌, Bool, false, if◌then◌else◌, List, [], ◌∷◌, ◌++◌, take, Option, Some, None, Result, Ok, Err, slice_get}
use Rattle.ll1_grammar.specs.declared.symbol.Step.TheVariants.{Did, Took}
use Rattle.ll1_grammar.specs.Grammar.{Derives, taken}
use Rattle.ll1_grammar.specs.Places.{IsErrorPlace}
use Rattle.notebook_grammar.specs.declared.action.Action.{Action}
use Rattle.notebook_grammar.specs.declared.action.Action.TheVariants as act
use Rattle.notebook_grammar.specs.declared.action.ExprAction.{ExprAction}
use Rattle.notebook_grammar.specs.declared.action.ExprAction.TheVariants as e_act
use Rattle.notebook_grammar.specs.declared.lexeme.Lexeme.{Lexeme}
use Rattle.notebook_grammar.specs.declared.start.Start.{Start}
use Rattle.notebook_grammar.specs.declared.machine.Stopped.{Stopped}
use Rattle.notebook_grammar.specs.declared.machine.Stopped.TheVariants as stopped
use Rattle.notebook_grammar.specs.Language.{language, start_of, Steps}

-- the number of tokens of the open expression after an action; none outside of expressions
abbrev pub after_expr : ExprAction → Option ℕ → Option ℕ
after_expr e_act.Begin count = Some 0
after_expr e_act.End count = None
after_expr a count = count

abbrev pub after : Action → Option ℕ → Option ℕ
after (act.Expr a) count = after_expr a count
after a count = count

-- whether the open expression has as many tokens as it may
abbrev pub is_full : Option ℕ → Bool
is_full None = false
is_full (Some n) = n == 1000

-- the number after a token more
abbrev pub more : Option ℕ → Option ℕ
more None = None
more (Some n) = Some (n + 1)

-- the number after these steps, or none where an expression takes a token too many
abbrev pub counted : Option ℕ → Steps → Option (Option ℕ)
counted count [] = Some count
counted count (Did a ∷ steps) = counted (after a count) steps
counted count (Took t ∷ steps) = if is_full count then None else counted (more count) steps

-- no expression takes a token too many
abbrev pub IsCounted : Steps → Type 0
IsCounted steps = (count : Option ℕ) × (counted None steps ≡ Some count)

-- the lexemes are a sentence within the limit, and these are its steps
abbrev pub IsSentence : Start → List Lexeme → Steps → Type 0
IsSentence start lexemes steps = Derives language (start_of start) lexemes steps × IsCounted steps

-- a sentence takes the lexeme here, after 1,000 tokens of an expression that is still open
pub record IsTooMany (start : Start) (lexemes : List Lexeme) (at : ℕ) : Type 0 where
  pub lexeme : Lexeme
  pub later : List Lexeme
  pub front : Steps
  pub rest : Steps
  pub here : slice_get lexemes at ≡ Some lexeme
  pub sentence : Derives language (start_of start) (take at lexemes ++ lexeme ∷ later) (front ++ Took lexeme ∷ rest)
  pub before : taken front ≡ take at lexemes
  pub full : counted None front ≡ Some (Some 1000)

-- no expression has taken a lexeme too many before this place
abbrev pub IsWithin : Start → List Lexeme → ℕ → Type 0
IsWithin start lexemes at = (j : ℕ) → j < at → IsTooMany start lexemes j → ⊥

-- the first lexeme that no sentence goes on with, or that is one too many in its expression
abbrev pub IsWrongAt : Start → List Lexeme → ℕ → Type 0
IsWrongAt start lexemes at = IsWithin start lexemes at × (IsErrorPlace language (start_of start) lexemes at ⊎ IsTooMany start lexemes at)

-- what the machine answers
abbrev pub IsRun : Start → List Lexeme → Result Steps Stopped → Type 0
IsRun start lexemes (Ok steps) = IsSentence start lexemes steps
IsRun start lexemes (Err (stopped.At at)) = IsWrongAt start lexemes at
IsRun start lexemes (Err stopped.NoMemory) = Unit {0}
