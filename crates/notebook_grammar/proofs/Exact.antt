-- What the theory of LL(1) tables says of this grammar.
use Rattle.ll1_grammar.specs.declared.item.Bounded.{Bounded}
use Rattle.ll1_grammar.specs.Ahead.{Lookahead, IsLL1, IsProductive}
use Rattle.ll1_grammar.specs.Test.{lookahead}
use Rattle.ll1_grammar.proofs.Tested.{is_ll1}
use Rattle.ll1_grammar.proofs.ShortOnes.{is_productive}
use Rattle.notebook_grammar.specs.declared.rule.Rule.{Rule}
use Rattle.notebook_grammar.specs.declared.lexeme.Lexeme.{Lexeme}
use Rattle.notebook_grammar.specs.Language.{table, kind_code, language}
use Rattle.notebook_grammar.proofs.Hints.{hints}
use Rattle.notebook_grammar.proofs.Fine.{fine}
use Rattle.notebook_grammar.proofs.Shorts.{short, found}

pub ahead : Lookahead (Bounded Rule) Lexeme
ahead = lookahead hints kind_code

pub ll1 : IsLL1 language ahead
unfolding language ahead
ll1 = is_ll1 table hints kind_code fine

pub productive : IsProductive language
unfolding language
productive = is_productive table kind_code 60 short found
