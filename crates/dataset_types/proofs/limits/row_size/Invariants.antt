use Rattle.std.proofs.Common.{◌≡◌, ◌+◌, ◌-◌, ◌^◌, take, length, min}
use Rattle.std.specs.List.{sum_by}
use Rattle.value_types.specs.Text.{id}
use Rattle.dataset_types.specs.Tables.{text_size}
use Rattle.dataset_types.proofs.limits.row_size.Given as goal

abbrev pub invariant-loop-marked : goal.invariant-loop-marked
invariant-loop-marked l = l.size ≡ min (length (id l.row.id) + sum_by (λ m. text_size m.value) (take l.marked-index l.row.values)) (2 ^ 64 - 1)
