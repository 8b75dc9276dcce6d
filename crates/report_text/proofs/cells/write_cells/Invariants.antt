use Rattle.std.proofs.Common.{◌≡◌, ◌++◌, ◌+◌, drop}
use Rattle.report_text.specs.Passing.{Sent}
use Rattle.report_text.specs.Report.{cells_text}
use Rattle.report_text.proofs.cells.write_cells.Given as goal

abbrev pub invariant-loop-cell : goal.invariant-loop-cell
invariant-loop-cell g l =
    let k = g.K.Sink in
    record {
      number : l.position ≡ l.cell-index + 1;
      so_far : Sent (k.written l.fn.sink) (k.written l.sink) (l.fn.out ++ cells_text 1 l.cells l.outcomes) (l.out ++ cells_text l.position (drop l.cell-index l.cells) l.rest);
      no_fault : k.faults l.sink ≡ k.faults l.fn.sink;
    }
