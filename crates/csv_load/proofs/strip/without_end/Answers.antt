use Rattle.csv_load.proofs.EndLemmas.{byte_goes, byte_stays}
use Rattle.csv_load.proofs.strip.without_end.Goals as goal

pub loop-last-preserved : goal.loop-last-preserved
loop-last-preserved c =
    byte_goes c.args.byte _ c.loop-last.rest.now _ _ c.loop-last.invariant c.in-Some.ensures.cases.0 c.if-last-byte.false

pub returns-then-last-byte : goal.returns-then-last-byte
returns-then-last-byte c =
    byte_stays c.args.byte _ _ _ _ c.loop-last.invariant c.in-Some.ensures.cases.0 c.if-last-byte.true
