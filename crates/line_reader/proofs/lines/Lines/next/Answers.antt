use Rattle.std.proofs.Common.{◌∙◌, ap, sym}
use Rattle.line_reader.specs.Reading.{State}
use Rattle.line_reader.proofs.Steps.{over}
use Rattle.line_reader.proofs.lines.Lines.next.Goals as goal

pub returns-in-Err-clause-gets : goal.returns-in-Err-clause-gets
returns-in-Err-clause-gets g c = λ first lines k. c.in-Err.ensures.gets first lines (c.loop-self.invariant.cuts first lines k)

pub loop-self-preserved : goal.loop-self-preserved
loop-self-preserved g c = record {
  cuts = λ first lines k. c.in_default.ensures.more first lines (c.loop-self.invariant.cuts first lines k);
  kept = c.in_default.ensures.kept ∙ c.loop-self.invariant.kept;
}

pub returns-clause-gets : goal.returns-clause-gets
returns-clause-gets g c = λ first lines k. over first _ lines c.loop-self.self (sym (ap (λ (s : State). s.ended) c.self.view_is) ∙ c.loop-self-test.false) (c.loop-self.invariant.cuts first lines k)
