use Rattle.std.proofs.Common.{arith}
use Rattle.notebook_grammar.proofs.Cutting.{skips, no_blank}
use Rattle.notebook_grammar.proofs.lexeme.skip_blanks.Goals as goal

pub loop-at-preserved : goal.loop-at-preserved
loop-at-preserved c =
    let l = c.loop-at in let text = c.args.text.now in (
      omega (arith, c.loop-at-test.true),
      λ calls ls d. l.invariant.1 calls ls (skips text l.at c.loop-at-test.true c.is_blank.result c.is_blank.ensures c.if-is_blank.true calls ls d),
      omega (arith, l.invariant.2),
    )

pub returns-else-is_blank : goal.returns-else-is_blank
returns-else-is_blank c =
    let l = c.loop-at in record {
      within = l.invariant.0;
      forward = l.invariant.2;
      next = λ h. no_blank c.args.text.now l.at c.loop-at-test.true c.is_blank.result c.is_blank.ensures c.if-is_blank.false;
      lexemes = l.invariant.1;
    }
