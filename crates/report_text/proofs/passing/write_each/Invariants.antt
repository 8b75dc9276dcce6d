use Rattle.std.proofs.Common.{◌≡◌, ◌++◌, drop}
use Rattle.std.specs.List.{flat_map}
use Rattle.report_text.specs.Passing.{Sent}
use Rattle.report_text.proofs.passing.write_each.Given as goal

abbrev pub invariant-loop-item : goal.invariant-loop-item
invariant-loop-item g l =
    let k = g.K.Sink in
    let text = g.T.Shown.text in
    record {
      so_far : Sent (k.written l.fn.sink) (k.written l.sink) (l.fn.out ++ flat_map text l.items) (l.out ++ flat_map text (drop l.item-index l.items));
      no_fault : k.faults l.sink ≡ k.faults l.fn.sink;
    }
