use Rattle.std.proofs.Common.{◌≡◌, drop, map, length}
use Rattle.notebook_grammar.specs.Words.{shown, of_length, kind_among}
use Rattle.notebook_grammar.proofs.words.kind_of_word.Given as goal

abbrev pub invariant-loop-reserved : goal.invariant-loop-reserved
invariant-loop-reserved l = kind_among l.word (map shown (drop l.reserved-index l.reserved-items)) ≡ kind_among l.word (of_length (length l.word))
