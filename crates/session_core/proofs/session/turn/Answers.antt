use Rattle.std.proofs.Common.{◌≡◌, ◌∙◌, inl, ◌++◌, ◌∷◌, []}
use Rattle.report_words.specs.Reports.{lines_in}
use Rattle.line_reader.proofs.Steps.{heard_of}
use Rattle.session_core.proofs.Turns.{stepped, later, heard_front, whole}
use Rattle.session_core.proofs.session.turn.Goals as goal

pub returns-in-Ok-clause-stood : goal.returns-in-Ok-clause-stood
returns-in-Ok-clause-stood g c = λ picks first start count hs st.
    let next = c.in-Line.ensures.gets first (lines_in hs) st.cuts in
    let kept : c.as_slice.result.now ≡ _ = c.as_slice.ensures ∙ next.1 in
    stepped c.write_earned.result c.in-Ok.earned picks first _ start _ _ _ count _ _ c.args.lines.now c.next.new.self c.args.book.now c.take_line.new.self c.args.number hs next.0 next.2
    (c.in-Ok.ensures.took next.0 kept) c.write_earned.ensures.text st.book_is st.number_is st.text st.told

pub returns-in-Line-clause-stood : goal.returns-in-Line-clause-stood
returns-in-Line-clause-stood g c = λ picks first start count hs st.
    let next = c.in-Line.ensures.gets first (lines_in hs) st.cuts in (
      hs,
      (heard_front first _ (lines_in hs) (next.0 ∷ []) (heard_of first _ (lines_in hs ++ next.0 ∷ []) c.next.new.self next.2), inl (whole start _ _ st.text)),
      later _ count _ _ picks hs c.take_line.ensures.later st.told,
    )

pub returns-in-End-clause-stood : goal.returns-in-End-clause-stood
returns-in-End-clause-stood g c = λ picks first start count hs st.
    let next = c.in-End.ensures.gets first (lines_in hs) st.cuts in
    (hs, (next.0, next.1, st.text), st.told)

pub returns-in-ReadFault-clause-stood : goal.returns-in-ReadFault-clause-stood
returns-in-ReadFault-clause-stood g c = λ picks first start count hs st.
    let next = c.in-ReadFault.ensures.gets first (lines_in hs) st.cuts in
    (hs, (next.0, next.1, next.2, next.3, st.text), st.told)

pub returns-in-StreamTooLong-clause-stood : goal.returns-in-StreamTooLong-clause-stood
returns-in-StreamTooLong-clause-stood g c = λ picks first start count hs st.
    let next = c.in-StreamTooLong.ensures.gets first (lines_in hs) st.cuts in
    (hs, (next.0, next.1, next.2, next.3, st.text), st.told)

pub returns-clause-stood : goal.returns-clause-stood
returns-clause-stood g c = λ picks first start count hs st. (hs, (c.in-NoMemory.ensures.gets first (lines_in hs) st.cuts, inl (whole start _ _ st.text)), st.told)
