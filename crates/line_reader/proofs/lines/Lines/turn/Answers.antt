use Rattle.std.proofs.Common.{◌≡◌, ◌≤◌, ◌∙◌, ap, arith, []}
use Rattle.line_reader.specs.Cut.{limit}
use Rattle.line_reader.specs.Reading.{State}
use Rattle.line_reader.proofs.Steps.{cuts_more, at_read_fault, at_limit, heard_of, on_none, on_some}
use Rattle.line_reader.proofs.lines.Lines.turn.Goals as goal

pub returns-in-Ok-Some-clause-gets : goal.returns-in-Ok-Some-clause-gets
returns-in-Ok-Some-clause-gets g c = λ first lines k. on_some c.in-Ok-Some.field-0 c.in-Ok-Some.line first _ lines c.cut.new.self c.in-Ok-Some.field-0-is (c.in-Ok-Some.ensures.line first _ lines k)

pub returns-in-Err-clause-gets : goal.returns-in-Err-clause-gets
returns-in-Err-clause-gets g c = λ first lines k. heard_of first _ lines c.args.self.now k

pub returns-then-self-gt-LIMIT-clause-gets : goal.returns-then-self-gt-LIMIT-clause-gets
returns-then-self-gt-LIMIT-clause-gets g c = λ first lines k.
    let o = c.in-Ok-None.ensures in
    at_limit first _ lines c.cut.new.self o.going (o.none c.in-Ok-None.field-0-is) (omega (arith, c.if-self-gt-LIMIT.true, ap (λ (s : State). s.total) c.self.view_is))
    (on_none c.in-Ok-None.field-0 first _ lines c.cut.new.self c.in-Ok-None.field-0-is (o.line first _ lines k))

pub returns-in-Ok-eq0-clause-gets : goal.returns-in-Ok-eq0-clause-gets
returns-in-Ok-eq0-clause-gets g c = λ first lines k.
    let o = c.in-Ok-None.ensures in
    let s = c.cut.new.self in
    let le : s.total ≤ limit = omega (arith, c.if-self-gt-LIMIT.false, ap (λ (x : State). x.total) c.self.view_is) in
    let none : s.unread ≡ [] = o.none c.in-Ok-None.field-0-is in
    let before = on_none c.in-Ok-None.field-0 first _ lines s c.in-Ok-None.field-0-is (o.line first _ lines k) in
    let t = c.refill.new.self in
    let r = c.in-Ok-eq0.ensures in
    let n = c.in-Ok-eq0.field-0 in
    let b = r.bytes in
    let after = cuts_more first _ _ lines s t b.0 n o.going (r.going ∙ o.going) none le b.3.0 r.count r.pending b.3.1 b.1.0 before in
    c.finish.ensures.gets _ (b.1.1 c.in-Ok-eq0.field-0-test b.2) first lines after

pub returns-in-Ok-clause-more : goal.returns-in-Ok-clause-more
returns-in-Ok-clause-more g c = λ first lines k.
    let o = c.in-Ok-None.ensures in
    let s = c.cut.new.self in
    let le : s.total ≤ limit = omega (arith, c.if-self-gt-LIMIT.false, ap (λ (x : State). x.total) c.self.view_is) in
    let none : s.unread ≡ [] = o.none c.in-Ok-None.field-0-is in
    let before = on_none c.in-Ok-None.field-0 first _ lines s c.in-Ok-None.field-0-is (o.line first _ lines k) in
    let t = c.refill.new.self in
    let r = c.in-Ok.ensures in
    let n = c.in-Ok.field-0 in
    let b = r.bytes in
    cuts_more first _ _ lines s t b.0 n o.going (r.going ∙ o.going) none le b.3.0 r.count r.pending b.3.1 b.1.0 before

pub returns-in-Err-refill-clause-gets : goal.returns-in-Err-refill-clause-gets
returns-in-Err-refill-clause-gets g c = λ first lines k.
    let o = c.in-Ok-None.ensures in
    let s = c.cut.new.self in
    let le : s.total ≤ limit = omega (arith, c.if-self-gt-LIMIT.false, ap (λ (x : State). x.total) c.self.view_is) in
    let none : s.unread ≡ [] = o.none c.in-Ok-None.field-0-is in
    let before = on_none c.in-Ok-None.field-0 first _ lines s c.in-Ok-None.field-0-is (o.line first _ lines k) in
    at_read_fault first _ _ lines s o.going none le c.in-Err-refill.ensures.bytes.1 before
