use Rattle.std.proofs.Common.{ap, sym, subst, Err}
use Rattle.outside_io.specs.Texts.{AppendsFront}
use Rattle.report_words.specs.declared.status.SessionStatus.{SessionStatus}
use Rattle.session_core.specs.Earned.{WritesLine, earned_text, is_starved}
use Rattle.session_core.specs.declared.earned.Earned.{Earned}
use Rattle.session_core.proofs.Written.{writes_fault}
use Rattle.session_core.proofs.Turns.{whole}
use Rattle.session_core.proofs.earned.write_earned.Goals as goal

pub returns-in-Err-write_block-clause-text : goal.returns-in-Err-write_block-clause-text
returns-in-Err-write_block-clause-text g c =
    let k = g.K.Sink in
    subst (λ (s : SessionStatus). WritesLine {T = Unit {0}} (Err s) c.args.line c.args.earned.now (k.written c.args.sink.now) (k.written c.write_block.new.sink)) (sym c.status_of-in-Err-write_block.ensures)
    (writes_fault c.in-Err-write_block.fault c.args.line c.args.earned.now (k.written c.args.sink.now) (k.written c.write_block.new.sink) (ap is_starved c.in-Block.is)
    (subst (λ (e : Earned). AppendsFront (k.written c.args.sink.now) (k.written c.write_block.new.sink) (earned_text c.args.line e)) (sym c.in-Block.is) c.in-Err-write_block.ensures.text))

pub returns-in-Ok-write_starved-clause-text : goal.returns-in-Ok-write_starved-clause-text
returns-in-Ok-write_starved-clause-text g c =
    let k = g.K.Sink in
    subst (λ (e : Earned). AppendsFront (k.written c.args.sink.now) (k.written c.write_starved.new.sink) (earned_text c.args.line e)) (sym c.in-Starved.is) (whole _ _ _ c.in-Ok-write_starved.ensures.text)

pub returns-in-Err-write_starved-clause-text : goal.returns-in-Err-write_starved-clause-text
returns-in-Err-write_starved-clause-text g c =
    let k = g.K.Sink in
    subst (λ (e : Earned). AppendsFront (k.written c.args.sink.now) (k.written c.write_starved.new.sink) (earned_text c.args.line e)) (sym c.in-Starved.is) c.in-Err-write_starved.ensures.text
