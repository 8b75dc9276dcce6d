use Rattle.std.proofs.Common.{rules, ◌≡◌, ◌++◌, List, ℕ, subst}
use Rattle.outside_io.specs.Texts.{AppendsFront, WritesText}
use Rattle.outside_io.proofs.Appended.{front_of_more}
use Rattle.report_text.specs.Passing.{Sent}
use Rattle.report_text.specs.Report.{block_text, head_line, body_text, tail_text}
use Rattle.report_text.proofs.Passed.{front_sent, written_then}
use Rattle.report_text.proofs.block.write_block.Goals as goal

pub returns-in_err-write_body-clause-text : goal.returns-in_err-write_body-clause-text
returns-in_err-write_body-clause-text g c =
    let k = g.K.Sink.written in
    let s = c.args.settled.now in
    let head = head_line c.args.version c.args.branch.now in
    let body = body_text s.cells s.results s.env in
    let starts : c.push_head.new.out ≡ head = search rules in
    let text = subst (λ (l : List ℕ). AppendsFront (k c.args.sink.now) (k c.write_body.new.sink) (l ++ body)) starts c.in_err-write_body.ensures.text in
    let front : AppendsFront (k c.args.sink.now) (k c.write_body.new.sink) (block_text c.args.version c.args.branch.now s.cells s.results s.env) =
    front_of_more _ _ (head ++ body) (tail_text s.env.blurred c.args.version) text in
    search (rules, front)

pub returns-in_err-push_tail-clause-text : goal.returns-in_err-push_tail-clause-text
returns-in_err-push_tail-clause-text g c =
    let k = g.K.Sink.written in
    let s = c.args.settled.now in
    let head = head_line c.args.version c.args.branch.now in
    let body = body_text s.cells s.results s.env in
    let starts : c.push_head.new.out ≡ head = search rules in
    let sent = subst (λ (l : List ℕ). Sent (k c.args.sink.now) (k c.write_body.new.sink) (l ++ body) c.write_body.new.out) starts c.in_ok-write_body.ensures.text in
    let front : AppendsFront (k c.args.sink.now) (k c.write_body.new.sink) (block_text c.args.version c.args.branch.now s.cells s.results s.env) =
    front_of_more _ _ (head ++ body) (tail_text s.env.blurred c.args.version) (front_sent _ _ _ c.write_body.new.out sent) in
    search (rules, front)

pub returns-clause-text : goal.returns-clause-text
returns-clause-text g c =
    let k = g.K.Sink.written in
    let s = c.args.settled.now in
    let head = head_line c.args.version c.args.branch.now in
    let body = body_text s.cells s.results s.env in
    let tail = tail_text s.env.blurred c.args.version in
    let starts : c.push_head.new.out ≡ head = search rules in
    let sent = subst (λ (l : List ℕ). Sent (k c.args.sink.now) (k c.write_body.new.sink) (l ++ body) c.write_body.new.out) starts c.in_ok-write_body.ensures.text in
    let left : c.as_bytes.result.now ≡ c.write_body.new.out ++ tail = search rules in
    let text = subst (λ (l : List ℕ). WritesText (k c.write_body.new.sink) (k c.write_all.new.sink) c.write_all.result l) left c.write_all.ensures.text in
    written_then _ (k c.write_body.new.sink) _ _ (head ++ body) c.write_body.new.out tail sent text
