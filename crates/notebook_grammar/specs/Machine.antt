-- What the machine chooses, and what comes next on its stack.
use Rattle.std.specs.Prelude.{◌≡◌, ℕ, true, ◌+◌, ◌<◌, ◌≤◌, List, [], ◌∷◌, ◌++◌, Option, Some, None, Result, Ok, Err}
use Rattle.ll1_grammar.specs.declared.symbol.Symbol.TheVariants.{Nonterminal, Action as Act}
use Rattle.ll1_grammar.specs.Table.{laid_out, entry, fits, where_it_fits}
use Rattle.notebook_grammar.specs.declared.lexeme.Lexeme.{Lexeme}
use Rattle.notebook_grammar.specs.declared.rule.Rule.{Rule}
use Rattle.notebook_grammar.specs.declared.machine.Frame.{Frame}
use Rattle.notebook_grammar.specs.declared.machine.Choice.{Choice}
use Rattle.notebook_grammar.specs.declared.machine.Choice.TheVariants.{Take, Go, Stop}
use Rattle.notebook_grammar.specs.declared.machine.Stopped.{Stopped}
use Rattle.notebook_grammar.specs.declared.machine.Stopped.TheVariants as stopped
use Rattle.notebook_grammar.specs.declared.machine.Next.{Next}
use Rattle.notebook_grammar.specs.declared.machine.Next.TheVariants.{End, Done, Goal}
use Rattle.notebook_grammar.specs.Kinds.{code_of}
use Rattle.notebook_grammar.specs.Language.{alternatives, otherwise, at_room, Symbols}
use Rattle.notebook_grammar.specs.Weights.{weight, load}

-- the alternative of the rule at the next lexeme, if there is one with room
abbrev pub chosen_at : Rule → ℕ → Option Lexeme → Option Symbols
chosen_at rule room None = None
chosen_at rule room (Some l) = where_it_fits room (entry (code_of l.kind) (alternatives rule))

-- the rule's other side, if there is one with room
abbrev pub other_at : Rule → ℕ → Option Symbols
other_at rule room = where_it_fits room (otherwise rule)

-- the choice is the table's
abbrev pub IsChoice : Rule → ℕ → Option Lexeme → Choice → Type 0
IsChoice rule room next (Take l s) = (next ≡ Some l) × (entry (code_of l.kind) (alternatives rule) ≡ Some s.now) × (fits room s.now ≡ true)
IsChoice rule room next (Go s) = (chosen_at rule room next ≡ None) × (otherwise rule ≡ Some s.now) × (fits room s.now ≡ true)
IsChoice rule room next Stop = (chosen_at rule room next ≡ None) × (other_at rule room ≡ None)

-- the symbols of the frames, the last frame's first, before these
abbrev pub symbols : List Frame → Symbols → Symbols
symbols [] s = s
symbols (f ∷ fs) s = symbols fs (laid_out f.room f.rest.now ++ s)

-- what comes next is taken off the stack, which grows lighter
abbrev pub IsNext : List Frame → List Frame → Next → Type 0
IsNext old new End = symbols old [] ≡ []
IsNext old new (Done a) = (symbols old [] ≡ Act a ∷ symbols new []) × (load new < load old)
IsNext old new (Goal r room) = (symbols old [] ≡ Nonterminal (at_room r room) ∷ symbols new []) × (load new + weight r ≤ load old)

-- what comes next, or want of memory
abbrev pub Moves : List Frame → List Frame → Result Next Stopped → Type 0
Moves old new (Ok next) = IsNext old new next
Moves old new (Err e) = e ≡ stopped.NoMemory
