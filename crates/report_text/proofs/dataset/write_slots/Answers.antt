use Rattle.std.proofs.Common.{rules, ◌++◌, ◌∙◌, arith}
use Rattle.std.specs.List.{flat_map}
use Rattle.outside_io.specs.Texts.{AppendsFront}
use Rattle.report_text.specs.Report.{slot_text}
use Rattle.report_text.proofs.Passed.{sent_next, front_next}
use Rattle.report_text.proofs.dataset.write_slots.Goals as goal

pub returns-in_err-write_slot-clause-text : goal.returns-in_err-write_slot-clause-text
returns-in_err-write_slot-clause-text g c =
    let k = g.K.Sink.written in
    let text = slot_text c.args.blurred in
    let front : AppendsFront (k c.args.sink.now) (k c.write_slot.new.sink) (c.args.out.now ++ flat_map text c.args.slots.now) =
    front_next _ (k c.loop-entry.sink) _ _ c.loop-entry.out text c.args.slots.now c.loop-entry.entry-index c.entry-item.result
    (omega arith) c.entry-item.is c.loop-entry.invariant.so_far c.in_err-write_slot.ensures.text in
    search (rules, front)

pub loop-entry-preserved : goal.loop-entry-preserved
loop-entry-preserved g c =
    let k = g.K.Sink.written in
    record {
      so_far = sent_next _ (k c.loop-entry.sink) _ _ c.loop-entry.out _ (slot_text c.args.blurred) c.args.slots.now c.loop-entry.entry-index c.entry-item.result
          (omega arith) c.entry-item.is c.loop-entry.invariant.so_far c.in_ok-write_slot.ensures.text;
      no_fault = c.in_ok-write_slot.ensures.cause.cause ∙ c.loop-entry.invariant.no_fault;
    }
