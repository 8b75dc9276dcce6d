use Rattle.std.proofs.Common.{length, ◌-◌, ◌≤◌, ℕ, List}
use Rattle.notebook_grammar.specs.declared.lexeme.Lexeme.{Lexeme}
use Rattle.notebook_grammar.specs.Lexemes.{LexemesFrom}
use Rattle.notebook_grammar.proofs.lexeme.skip_blanks.Given as goal

abbrev pub invariant-loop-at : goal.invariant-loop-at
invariant-loop-at l = (l.at ≤ length l.text) × ((calls : ℕ) (ls : List Lexeme) → LexemesFrom l.text l.at calls ls → LexemesFrom l.text l.from calls ls) × (l.from ≤ l.at)

abbrev pub decreases-loop-at : goal.decreases-loop-at
decreases-loop-at l = length l.text - l.at
