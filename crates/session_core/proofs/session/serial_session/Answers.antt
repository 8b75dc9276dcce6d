use Rattle.session_core.proofs.Complete.{completes}
use Rattle.session_core.proofs.session.serial_session.Goals as goal

pub returns-clause-complete : goal.returns-clause-complete
returns-clause-complete g c =
    let s = g.S.Source in
    let k = g.K.Sink in
    let all = c.all_lines.ensures in
    completes c.all_lines.result c.args.picks (s.left c.args.source.now) (s.left c.all_lines.new.source) (k.written c.args.sink.now) (k.written c.all_lines.new.sink) all.report.0
    (s.faults c.args.source.now) (s.faults c.all_lines.new.source) (k.faults c.args.sink.now) (k.faults c.all_lines.new.sink) all.report.1 all.cause
