use Rattle.std.proofs.Common.{rules, ◌≡◌, ◌++◌, List, ℕ, subst}
use Rattle.std.specs.List.{flat_map}
use Rattle.outside_io.specs.Texts.{AppendsFront}
use Rattle.report_text.specs.Passing.{Sent, Passes}
use Rattle.report_text.specs.Report.{body_text, cells_text, slot_text}
use Rattle.report_text.proofs.Passed.{front_first, passes_then}
use Rattle.report_text.proofs.block.write_body.Goals as goal

pub returns-in_err-write_cells-clause-text : goal.returns-in_err-write_cells-clause-text
returns-in_err-write_cells-clause-text g c =
    let k = g.K.Sink.written in
    let s = c.args.settled.now in
    let cells : cells_text 1 c.as_slice.result.now c.as_slice-2.result.now ≡ cells_text 1 s.cells s.results = search rules in
    let text = subst (λ (l : List ℕ). AppendsFront (k c.args.sink.now) (k c.write_cells.new.sink) (c.args.out.now ++ l)) cells c.in_err-write_cells.ensures.text in
    let front : AppendsFront (k c.args.sink.now) (k c.write_cells.new.sink) (c.args.out.now ++ body_text s.cells s.results s.env) =
    front_first _ _ c.args.out.now (cells_text 1 s.cells s.results) (flat_map (slot_text s.env.blurred) s.env.slots) text in
    search (rules, front)

pub returns-clause-text : goal.returns-clause-text
returns-clause-text g c =
    let k = g.K.Sink.written in
    let s = c.args.settled.now in
    let cells : cells_text 1 c.as_slice.result.now c.as_slice-2.result.now ≡ cells_text 1 s.cells s.results = search rules in
    let sent = subst (λ (l : List ℕ). Sent (k c.args.sink.now) (k c.write_cells.new.sink) (c.args.out.now ++ l) c.write_cells.new.out) cells c.in_ok-write_cells.ensures.text in
    let slots : flat_map (slot_text c.is_blurred.result) c.as_slice-3.result.now ≡ flat_map (slot_text s.env.blurred) s.env.slots = search rules in
    let text = subst (λ (l : List ℕ). Passes (k c.write_cells.new.sink) (k c.write_slots.new.sink) c.write_slots.result c.write_cells.new.out c.write_slots.new.out l) slots c.write_slots.ensures.text in
    passes_then _ (k c.write_cells.new.sink) _ _ c.args.out.now (cells_text 1 s.cells s.results) (flat_map (slot_text s.env.blurred) s.env.slots) c.write_cells.new.out _ sent text
