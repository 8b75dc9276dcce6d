use Rattle.std.proofs.Common.{◌≡◌, ◌-◌, ◌^◌, take, min}
use Rattle.dataset_types.specs.Tables.{text_bytes}
use Rattle.dataset_types.proofs.limits.text_bytes.Given as goal

abbrev pub invariant-loop-row : goal.invariant-loop-row
invariant-loop-row l = l.size ≡ min (text_bytes (take l.row-index l.rows)) (2 ^ 64 - 1)
