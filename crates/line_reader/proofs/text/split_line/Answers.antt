-- The two halves of some bytes are their first line and what is after it.
use Rattle.std.proofs.Common.{◌≡◌, ◌≤◌, ◌<◌, length, arith}
use Rattle.line_reader.proofs.Feeds.{lacks_front}
use Rattle.line_reader.proofs.Texts.{first_is, only_is, is_empty}
use Rattle.line_reader.proofs.text.split_line.Goals as goal

pub returns-in-Some-clause-lines : goal.returns-in-Some-clause-lines
returns-in-Some-clause-lines c =
    let bs = c.args.bytes.now in
    let found = c.in-Some.ensures in
    first_is bs c.in-Some.at found.0.high (lacks_front bs c.in-Some.at (omega (arith, found.0.high)) found.0.before) found.1

pub returns-in-None-clause-lines : goal.returns-in-None-clause-lines
returns-in-None-clause-lines c =
    let bs = c.args.bytes.now in
    only_is bs (lacks_front bs (length bs) (omega arith) (λ at low high. c.in-None.ensures at low high))
    (λ none. is_empty (length bs) none c.is_empty.result c.is_empty.ensures c.if-is_empty.false)
