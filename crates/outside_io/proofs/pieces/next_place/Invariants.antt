use Rattle.std.proofs.Common.{◌≡◌, ◌≤◌, ◌-◌, [], length, get_or}
use Rattle.outside_io.specs.Memory.{left_from}
use Rattle.outside_io.proofs.pieces.next_place.Given as goal

abbrev pub invariant-loop-piece : goal.invariant-loop-piece
invariant-loop-piece l = record {
  inside : l.at ≤ length (get_or l.pieces l.piece []);
  same : left_from l.pieces l.piece l.at ≡ left_from l.pieces l.from l.start;
}

abbrev pub decreases-loop-piece : goal.decreases-loop-piece
decreases-loop-piece l = length l.pieces - l.piece
