use Rattle.std.proofs.Common.{length, ◌-◌, ◌≤◌, ◌++◌, List}
use Rattle.notebook_grammar.specs.declared.lexeme.Lexeme.{Lexeme}
use Rattle.notebook_grammar.specs.Lexemes.{LexemesFrom}
use Rattle.notebook_grammar.proofs.lexeme.lexemes.Given as goal

abbrev pub invariant-loop-at : goal.invariant-loop-at
invariant-loop-at l = (l.at ≤ length l.text) × ((ls : List Lexeme) → LexemesFrom l.text l.at l.calls ls → LexemesFrom l.text 0 0 (l.made.items ++ ls)) × (l.calls ≤ l.at)

abbrev pub decreases-loop-at : goal.decreases-loop-at
decreases-loop-at l = length l.text - l.at
