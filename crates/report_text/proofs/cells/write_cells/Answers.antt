use Rattle.std.proofs.Common.{rules, ◌≡◌, ◌<◌, ◌∷◌, ◌++◌, ◌+◌, ◌∙◌, ℕ, List, ap, sym, subst, arith, length, get_or, drop}
use Rattle.outside_io.specs.Texts.{AppendsFront}
use Rattle.cell_model.specs.declared.cell.Cell.{Cell}
use Rattle.cell_model.specs.declared.cell_result.CellResult.{CellResult}
use Rattle.report_text.specs.Passing.{Sent}
use Rattle.report_text.specs.Report.{cell_text, cells_text}
use Rattle.report_text.proofs.Passed.{sent_step, front_step, drop_at}
use Rattle.report_text.proofs.cells.write_cells.Goals as goal

-- the texts from a cell on: its own, and those after it
cells_from : (position : ℕ) (cells : List Cell) (i : ℕ) (item cell : Cell) (rs : List CellResult) (first r : CellResult) (more : List CellResult)
    → i < length cells → item ≡ get_or cells i item → cell ≡ item → rs ≡ first ∷ more → r ≡ first
    → cells_text position (drop i cells) rs ≡ cell_text position cell r ++ cells_text (position + 1) (drop (i + 1) cells) more
cells_from position cells i item cell rs first r more inside is same_cell at same_r =
    let rest = cells_text (position + 1) (drop (i + 1) cells) more in
    ap (λ (l : List Cell). cells_text position l rs) (drop_at cells i item inside is)
    ∙ ap (cells_text position (item ∷ drop (i + 1) cells)) at
    ∙ ap (λ (x : Cell). cell_text position x first ++ rest) (sym same_cell)
    ∙ ap (λ (x : CellResult). cell_text position cell x ++ rest) (sym same_r)

pub returns-in_err-write_cell-clause-text : goal.returns-in_err-write_cell-clause-text
returns-in_err-write_cell-clause-text g c =
    let k = g.K.Sink.written in
    let all = c.args.out.now ++ cells_text 1 c.args.cells.now c.args.outcomes.now in
    let text = cell_text c.loop-cell.position c.get.result.now c.get-in-loop-cell.result.now in
    let rest = cells_text (c.loop-cell.position + 1) (drop (c.loop-cell.cell-index + 1) c.args.cells.now) c.in-Some.more.now in
    let at : c.loop-cell.rest.now ≡ c.in-Some.outcome.now ∷ c.in-Some.more.now = search rules in
    let from = cells_from c.loop-cell.position c.args.cells.now c.loop-cell.cell-index c.cell-item.result c.get.result.now
    c.loop-cell.rest.now c.in-Some.outcome.now c.get-in-loop-cell.result.now c.in-Some.more.now (omega arith) c.cell-item.is c.get.ensures at c.get-in-loop-cell.ensures in
    let so_far = subst (λ (l : List ℕ). Sent (k c.args.sink.now) (k c.loop-cell.sink) all (c.loop-cell.out ++ l)) from c.loop-cell.invariant.so_far in
    let front : AppendsFront (k c.args.sink.now) (k c.write_cell.new.sink) all =
    front_step _ (k c.loop-cell.sink) _ all c.loop-cell.out text rest so_far c.in_err-write_cell.ensures.text in
    search (rules, front)

pub loop-cell-preserved : goal.loop-cell-preserved
loop-cell-preserved g c =
    let k = g.K.Sink.written in
    let all = c.args.out.now ++ cells_text 1 c.args.cells.now c.args.outcomes.now in
    let text = cell_text c.loop-cell.position c.get.result.now c.get-in-loop-cell.result.now in
    let rest = cells_text (c.loop-cell.position + 1) (drop (c.loop-cell.cell-index + 1) c.args.cells.now) c.in-Some.more.now in
    let at : c.loop-cell.rest.now ≡ c.in-Some.outcome.now ∷ c.in-Some.more.now = search rules in
    let from = cells_from c.loop-cell.position c.args.cells.now c.loop-cell.cell-index c.cell-item.result c.get.result.now
    c.loop-cell.rest.now c.in-Some.outcome.now c.get-in-loop-cell.result.now c.in-Some.more.now (omega arith) c.cell-item.is c.get.ensures at c.get-in-loop-cell.ensures in
    let so_far = subst (λ (l : List ℕ). Sent (k c.args.sink.now) (k c.loop-cell.sink) all (c.loop-cell.out ++ l)) from c.loop-cell.invariant.so_far in
    record {
      number = omega arith;
      so_far = sent_step _ (k c.loop-cell.sink) _ all c.loop-cell.out text rest c.write_cell.new.out so_far c.in_ok-write_cell.ensures.text;
      no_fault = c.in_ok-write_cell.ensures.cause.cause ∙ c.loop-cell.invariant.no_fault;
    }
