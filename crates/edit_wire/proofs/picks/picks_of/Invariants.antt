-- The picks so far, and then those of the lines that are left.
use Rattle.std.proofs.Common.{◌≡◌, ◌+◌, ◌≤◌, length}
use Rattle.line_reader.specs.Cut.{lines_of}
use Rattle.edit_wire.specs.PicksFile.{picks_of, picks_from}
use Rattle.edit_wire.proofs.PicksLemmas.{before}
use Rattle.edit_wire.proofs.picks.picks_of.Given as goal

abbrev pub invariant-loop-line : goal.invariant-loop-line
invariant-loop-line l =
    (l.number + length l.rest ≤ length l.bytes)
    × (picks_of l.bytes ≡ before l.picks (picks_from (l.number + 1) (lines_of l.rest)))

abbrev pub decreases-loop-line : goal.decreases-loop-line
decreases-loop-line l = length l.rest
