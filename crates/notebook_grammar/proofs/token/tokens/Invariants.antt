use Rattle.std.proofs.Common.{take}
use Rattle.notebook_grammar.specs.Tokens.{Shown}
use Rattle.notebook_grammar.proofs.token.tokens.Given as goal

abbrev pub invariant-loop-lexeme : goal.invariant-loop-lexeme
invariant-loop-lexeme l = Shown (take l.lexeme-index l.lexeme-items) l.made
