use Rattle.std.proofs.Common.{◌≡◌, ◌++◌, drop}
use Rattle.std.specs.List.{flat_map}
use Rattle.report_text.specs.Passing.{Sent}
use Rattle.report_text.specs.Report.{slot_text}
use Rattle.report_text.proofs.dataset.write_slots.Given as goal

abbrev pub invariant-loop-entry : goal.invariant-loop-entry
invariant-loop-entry g l =
    let k = g.K.Sink in
    let text = slot_text l.blurred in
    record {
      so_far : Sent (k.written l.fn.sink) (k.written l.sink) (l.fn.out ++ flat_map text l.slots) (l.out ++ flat_map text (drop l.entry-index l.slots));
      no_fault : k.faults l.sink ≡ k.faults l.fn.sink;
    }
