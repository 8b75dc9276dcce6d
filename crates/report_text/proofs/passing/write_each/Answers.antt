use Rattle.std.proofs.Common.{rules, ◌++◌, ◌∙◌, arith}
use Rattle.std.specs.List.{flat_map}
use Rattle.outside_io.specs.Texts.{AppendsFront}
use Rattle.report_text.proofs.Passed.{sent_next, front_next}
use Rattle.report_text.proofs.passing.write_each.Goals as goal

pub returns-in_err-write_one-clause-text : goal.returns-in_err-write_one-clause-text
returns-in_err-write_one-clause-text g c =
    let k = g.K.Sink.written in
    let text = g.T.Shown.text in
    let front : AppendsFront (k c.args.sink.now) (k c.write_one.new.sink) (c.args.out.now ++ flat_map text c.args.items.now) =
    front_next _ (k c.loop-item.sink) _ _ c.loop-item.out text c.args.items.now c.loop-item.item-index c.item-item.result
    (omega arith) c.item-item.is c.loop-item.invariant.so_far c.in_err-write_one.ensures.text in
    search (rules, front)

pub loop-item-preserved : goal.loop-item-preserved
loop-item-preserved g c =
    let k = g.K.Sink.written in
    record {
      so_far = sent_next _ (k c.loop-item.sink) _ _ c.loop-item.out _ g.T.Shown.text c.args.items.now c.loop-item.item-index c.item-item.result
          (omega arith) c.item-item.is c.loop-item.invariant.so_far c.in_ok-write_one.ensures.text;
      no_fault = c.in_ok-write_one.ensures.cause.cause ∙ c.loop-item.invariant.no_fault;
    }
