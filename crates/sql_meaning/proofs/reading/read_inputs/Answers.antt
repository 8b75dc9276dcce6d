-- One name more is read, or the first that is absent ends the reads.
use Rattle.std.proofs.Common.{◌≡◌, ◌+◌, [], sym, subst, refl}
use Rattle.std.proofs.lemmas.Result.{err_from_is_err_and}
use Rattle.cell_model.proofs.WorkLemmas.{keeps_none, keeps_more}
use Rattle.sql_meaning.proofs.NamesRead.{SoFar, none_yet, one_more, stops_here, all_read}
use Rattle.sql_meaning.proofs.reading.read_inputs.Goals as goal

pub loop-name-init : goal.loop-name-init
loop-name-init g c =
    let none : c.in_ok-inputs.inputs ≡ [] = cc (c.in_ok-inputs.ensures) in
    record {
      going = c.requires.going;
      sofar = rw c.requires.fresh (subst (λ s. SoFar c.args.names.now 0 s []) (sym none) (none_yet c.args.names.now));
      source = rw c.requires.fresh (keeps_none (g.R.Reads.source c.args.reads.now) (g.R.Reads.source c.args.reads.now) refl);
    }

pub returns-in_err-input-clause-works : goal.returns-in_err-input-clause-works
returns-in_err-input-clause-works g c =
    let p = err_from_is_err_and c.from_residual-in_err-input.result c.from_residual-in_err-input.ensures.1 in
    rw (p.1, p.2) (
      c.in_ok-slot.ensures.goes_on,
      stops_here c.args.names.now c.loop-name.name-index c.loop-name.inputs (g.R.Reads.asked c.loop-name.reads) (g.R.Reads.asked c.read.new.self) c.name-item.result c.in_ok-slot.slot
          c.requires.once c.loop-name-test.true c.name-item.is c.loop-name.invariant.sofar c.in_ok-slot.ensures.ok c.in_err-input.field-0.0 (sym c.in_err-input.ensures),
    )

pub returns-in_err-input-clause-source : goal.returns-in_err-input-clause-source
returns-in_err-input-clause-source g c =
    keeps_more (g.R.Reads.source c.args.reads.now) (g.R.Reads.source c.loop-name.reads) (g.R.Reads.source c.read.new.self) (g.R.Reads.asked c.loop-name.reads) c.name-item.result
    c.in_ok-slot.slot (g.R.Reads.asked c.read.new.self) c.loop-name.invariant.source c.read.ensures.source c.in_ok-slot.ensures.ok c.in_ok-slot.ensures.agrees

pub returns-in_err-push-clause-source : goal.returns-in_err-push-clause-source
returns-in_err-push-clause-source g c =
    keeps_more (g.R.Reads.source c.args.reads.now) (g.R.Reads.source c.loop-name.reads) (g.R.Reads.source c.read.new.self) (g.R.Reads.asked c.loop-name.reads) c.name-item.result
    c.in_ok-slot.slot (g.R.Reads.asked c.read.new.self) c.loop-name.invariant.source c.read.ensures.source c.in_ok-slot.ensures.ok c.in_ok-slot.ensures.agrees

pub loop-name-preserved : goal.loop-name-preserved
loop-name-preserved g c = record {
  going = c.in_ok-slot.ensures.goes_on;
  sofar = subst (λ s. SoFar c.args.names.now (c.loop-name.name-index + 1) s (g.R.Reads.asked c.read.new.self)) (sym c.in_ok-push.ensures.ok)
      (one_more c.args.names.now c.loop-name.name-index c.loop-name.inputs (g.R.Reads.asked c.loop-name.reads) (g.R.Reads.asked c.read.new.self) c.name-item.result c.in_ok-slot.slot
      c.requires.once c.loop-name-test.true c.name-item.is c.loop-name.invariant.sofar c.in_ok-slot.ensures.ok c.in_ok-input.input (sym c.in_ok-input.ensures));
  source = keeps_more (g.R.Reads.source c.args.reads.now) (g.R.Reads.source c.loop-name.reads) (g.R.Reads.source c.read.new.self) (g.R.Reads.asked c.loop-name.reads) c.name-item.result
      c.in_ok-slot.slot (g.R.Reads.asked c.read.new.self) c.loop-name.invariant.source c.read.ensures.source c.in_ok-slot.ensures.ok c.in_ok-slot.ensures.agrees;
}

pub returns-clause-works : goal.returns-clause-works
returns-clause-works g c = (
  c.loop-name.invariant.going,
  all_read c.args.names.now c.loop-name.name-index c.loop-name.inputs (g.R.Reads.asked c.loop-name.reads) c.loop-name-test.false c.loop-name.invariant.sofar,
)
