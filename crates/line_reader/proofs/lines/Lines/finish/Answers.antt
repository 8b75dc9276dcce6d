use Rattle.std.proofs.Common.{◌∙◌, ap, sym, length}
use Rattle.line_reader.specs.Reading.{State}
use Rattle.line_reader.proofs.Steps.{at_end, at_last, heard_of}
use Rattle.line_reader.proofs.lines.Lines.finish.Goals as goal

pub returns-then-len-eq0-clause-gets : goal.returns-then-len-eq0-clause-gets
returns-then-len-eq0-clause-gets c = λ left end first lines k. at_end first left lines c.args.self.now c.requires.going c.requires.none c.requires.total (ap (λ (s : State). length s.pending) (sym c.self.view_is) ∙ sym c.len.ensures ∙ c.if-len-eq0.true) end k

pub returns-in-Ok-clause-gets : goal.returns-in-Ok-clause-gets
returns-in-Ok-clause-gets c = λ left end first lines k.
    at_last first left lines c.args.self.now c.end_line.new.self c.in-Ok.line c.requires.going (ap (λ (s : State). s.ended) c.in-Ok.ensures.state) c.requires.none c.requires.total
    (λ e. c.if-len-eq0.false (c.len.ensures ∙ ap (λ (s : State). length s.pending) c.self.view_is ∙ e)) (c.in-Ok.ensures.line ∙ ap (λ (s : State). s.pending) c.self.view_is) end k

pub returns-in-Err-clause-gets : goal.returns-in-Err-clause-gets
returns-in-Err-clause-gets c = λ left end first lines k. heard_of first left lines c.args.self.now k
