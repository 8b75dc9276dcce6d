use Rattle.std.proofs.Common.{◌∙◌, sym, length}
use Rattle.notebook_grammar.specs.Words.{of_length}
use Rattle.notebook_grammar.proofs.Lookups.{is_this, is_later}
use Rattle.notebook_grammar.proofs.words.kind_of_word.Goals as goal

pub returns-then-is_same_word : goal.returns-then-is_same_word
returns-then-is_same_word c =
    is_this c.args.word.now c.of_length-reserved-items.result.now (of_length (length c.args.word.now)) c.loop-reserved.reserved-index c.loop-reserved.invariant _ c.loop-reserved-test.true (sym c.is_same_word.ensures ∙ c.if-is_same_word.true)

pub loop-reserved-preserved : goal.loop-reserved-preserved
loop-reserved-preserved c =
    is_later c.args.word.now c.of_length-reserved-items.result.now (of_length (length c.args.word.now)) c.loop-reserved.reserved-index c.loop-reserved.invariant _ c.loop-reserved-test.true (sym c.is_same_word.ensures ∙ c.if-is_same_word.false)
