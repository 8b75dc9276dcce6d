use Rattle.std.proofs.Common.{◌∙◌, sym, refl, ◌++◌, ◌∷◌, []}
use Rattle.session_core.proofs.Turns.{starts, nothing_read, nothing_told, gave_up, refiled}
use Rattle.session_core.proofs.session.all_lines.Goals as goal

pub returns-in_default-clause-report : goal.returns-in_default-clause-report
returns-in_default-clause-report g c = ([], nothing_read _ _ _, nothing_told _ _ _)

pub returns-in_default-new-clause-report : goal.returns-in_default-new-clause-report
returns-in_default-new-clause-report g c = ([], nothing_read _ _ _, nothing_told _ _ _)

pub loop-number-init : goal.loop-number-init
loop-number-init g c = record {
  stood = ([], starts _ _ _ _ _ c.in-Ok.lines c.in-Ok-new.book c.in-Ok.ensures c.in-Ok-new.ensures);
  files = refl;
  source_kept = refl;
  sink_kept = refl;
}

pub loop-number-preserved : goal.loop-number-preserved
loop-number-preserved g c =
    let i = c.loop-number.invariant in
    let t = c.in_default-turn.ensures in
    let hs = i.stood.0 in
    let next = t.stood _ _ _ _ hs (refiled _ _ _ _ _ _ _ _ _ _ _ _ hs (sym i.files) i.stood.1) in
    record {
      stood = (hs ++ next.0 ∷ [], refiled _ _ _ _ _ _ _ _ _ _ _ _ (hs ++ next.0 ∷ []) i.files next.1);
      files = t.files ∙ i.files;
      source_kept = t.kept.0 ∙ i.source_kept;
      sink_kept = t.kept.1 ∙ i.sink_kept;
    }

pub returns-clause-report : goal.returns-clause-report
returns-clause-report g c =
    let i = c.loop-number.invariant in
    let end = gave_up _ _ _ _ _ _ _ _ _ _ _ i.stood.0 i.stood.1 in
    (i.stood.0, end.0, end.1)
