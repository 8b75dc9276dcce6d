use Rattle.std.proofs.Common.{◌∙◌, ap, sym, List, ℕ, drop, take}
use Rattle.std.proofs.lemmas.List.{drop-drop}
use Rattle.line_reader.specs.Reading.{State}
use Rattle.line_reader.proofs.lines.Lines.pass_feed.Goals as goal

pub returns : goal.returns
returns c =
    let i = c.self.inside in
    let with_unread : List ℕ → State = λ l. record { unread = l; total = i.total; pending = i.pending; ended = i.ended } in
    ap with_unread (sym (drop-drop 1 i.at (take i.filled i.buffer.items))) ∙ ap (λ (s : State). record s { unread = drop 1 s.unread }) c.self.view_is
