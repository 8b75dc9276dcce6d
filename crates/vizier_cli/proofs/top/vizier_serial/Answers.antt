-- What a session says under the picks that were opened.
use Rattle.std.proofs.Common.{◌≡◌, ℕ, List, Option, sym, subst, inl, inr}
use Rattle.std.specs.Option.{option_map}
use Rattle.version_tree.specs.Calls.{Tells}
use Rattle.report_words.specs.Reports.{WasTold}
use Rattle.vizier_cli.specs.Words.{serial_words}
use Rattle.vizier_cli.specs.Top.{Completes}
use Rattle.vizier_cli.specs.declared.status.Status.{Status}
use Rattle.vizier_cli.proofs.Ends.{completes_of, same_file}
use Rattle.vizier_cli.proofs.top.vizier_serial.Goals as goal

pub returns-in-Ok-opened-clause-report : goal.returns-in-Ok-opened-clause-report
returns-in-Ok-opened-clause-report g c =
    λ file e.
    let h = g.H.Shelf in
    let files = h.files c.args.shelf.now in
    let before = h.faults c.args.shelf.now in
    let between = h.faults c.ask.new.shelf in
    let session = c.serial_session.ensures.report in
    inr (inl (record {
      told = c.in-Ok.told;
      between = between;
      tells = subst (λ f. Tells files before between f c.in-Ok.told) (same_file _ _ file c.in-Some.ensures e) c.in-Ok.ensures.told;
      picks = c.in-Ok-opened.picks;
      opened = c.in-Ok-opened.ensures;
      ending = c.serial_session.result;
      ends = c.status_of.ensures;
      lines = session.0;
      says = session.1;
      was_told = subst (λ fs. WasTold fs between (h.faults c.serial_session.new.shelf) c.in-Ok-opened.picks session.0) c.ask.ensures.files session.2;
    }))

pub returns-in-Ok-opened-clause-complete : goal.returns-in-Ok-opened-clause-complete
returns-in-Ok-opened-clause-complete g c =
    λ file e.
    let s = g.S.Source in
    let k = g.K.Sink in
    let r = c.serial_session.ensures.report in
    let first = s.left c.args.source.now in
    subst (λ (x : Status). Completes x file (g.H.Shelf.files c.args.shelf.now) first (s.faults c.args.source.now) (s.faults c.serial_session.new.source) (k.faults c.args.sink.now) (k.faults c.serial_session.new.sink)) (sym c.status_of.ensures)
    (completes_of c.serial_session.result file (g.H.Shelf.files c.args.shelf.now) c.in-Ok-opened.picks first (s.left c.serial_session.new.source) (k.written c.args.sink.now) (k.written c.serial_session.new.sink) r.0
    (s.faults c.args.source.now) (s.faults c.serial_session.new.source) (k.faults c.args.sink.now) (k.faults c.serial_session.new.sink) r.1 c.serial_session.ensures.cause)
