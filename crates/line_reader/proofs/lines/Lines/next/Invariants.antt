use Rattle.std.proofs.Common.{◌≡◌, ◌-◌, ◌+◌, ℕ, List, Option}
use Rattle.line_reader.specs.Cut.{limit}
use Rattle.line_reader.specs.Reading.{Cuts}
use Rattle.line_reader.proofs.lines.Lines.next.Given as goal

abbrev pub invariant-loop-self : goal.invariant-loop-self
invariant-loop-self g l =
    let left = g.S.Source.left in
    record {
      cuts : (first : Option (List ℕ)) (lines : List (List ℕ)) → Cuts first (left l.fn.source) lines l.fn.self → Cuts first (left l.source) lines l.self;
      kept : g.S.Source.faults l.source ≡ g.S.Source.faults l.fn.source;
    }

abbrev pub decreases-loop-self : goal.decreases-loop-self
decreases-loop-self g l = limit + 1 - l.self.total
