use Rattle.std.proofs.Common.{◌≡◌, drop}
use Rattle.row_edits.specs.Staying.{stands}
use Rattle.row_edits.proofs.setting.stands.Given as goal

abbrev pub invariant-loop-one : goal.invariant-loop-one
invariant-loop-one l = stands l.row l.at l.value l.rows ≡ stands l.row l.at l.value (drop l.one-index l.rows)
