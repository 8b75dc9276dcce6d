use Rattle.std.proofs.Common.{◌≡◌, ℕ, List}
use Rattle.version_tree.specs.declared.told.Told.{Told}
use Rattle.session_core.specs.Turns.{Stood}
use Rattle.session_core.proofs.session.all_lines.Given as goal

abbrev pub invariant-loop-number : goal.invariant-loop-number
invariant-loop-number g l =
    let s = g.S.Source in
    let k = g.K.Sink in
    let h = g.H.Shelf in
    record {
      stood : (hs : List (List ℕ × Told))
          × Stood l.fn.picks (s.left l.fn.source) (s.left l.source) (k.written l.fn.sink) (k.written l.sink) (h.files l.fn.shelf) (h.faults l.fn.shelf) (h.faults l.shelf) l.lines l.book l.number hs;
      files : h.files l.shelf ≡ h.files l.fn.shelf;
      source_kept : s.faults l.source ≡ s.faults l.fn.source;
      sink_kept : k.faults l.sink ≡ k.faults l.fn.sink;
    }
