use Rattle.std.proofs.Common.{◌≡◌, ◌≤◌, ◌<◌, length, arith, nat_eq, get_or, true, ℕ}
use Rattle.line_reader.proofs.Feeds.{lacks_front}
use Rattle.line_reader.proofs.Steps.{fed, cuts_piece}
use Rattle.line_reader.proofs.lines.Lines.cut.Goals as goal

pub returns-in_ok-end_line-in-Some-clause-line : goal.returns-in_ok-end_line-in-Some-clause-line
returns-in_ok-end_line-in-Some-clause-line c = λ first left lines k.
    let s = c.args.self.now in
    let n = c.in-Some.count in
    let found = c.in-Some.ensures in
    let given = c.in_ok-end_line-in-Some in
    fed first left lines s c.keep.new.self c.pass_feed.new.self c.end_line.new.self n given.field-0 c.requires found.0.high
    (lacks_front s.unread n (omega (arith, found.0.high)) found.0.before) found.1
    c.in_ok-keep-in-Some.ensures c.pass_feed.ensures given.ensures.state given.ensures.line k

pub returns-in_ok-keep-in-None-clause-line : goal.returns-in_ok-keep-in-None-clause-line
returns-in_ok-keep-in-None-clause-line c = λ first left lines k.
    let s = c.args.self.now in
    let n = c.uncut.result in
    let count : n ≡ length s.unread = c.uncut.ensures in
    let no_feed : (at : ℕ) → 0 ≤ at → at < n → nat_eq (get_or s.unread at 0) 10 ≡ true → ⊥ =
    λ at low high. c.in-None.ensures at low (omega (arith, high, count)) in
    cuts_piece first left lines s c.keep-in-None.new.self n c.requires (lacks_front s.unread n (omega (arith, count)) no_feed) c.in_ok-keep-in-None.ensures k
