use Rattle.std.proofs.Common.{◌≡◌, take}
use Rattle.rel_group.specs.Calls.{rows_by}
use Rattle.rel_group.proofs.cutting.all_places.Given as goal

abbrev pub invariant-loop-i : goal.invariant-loop-i
invariant-loop-i l = rows_by l.rows l.all ≡ take l.i l.rows
