use Rattle.std.proofs.Common.{◌≡◌, drop}
use Rattle.dataset_types.specs.Slots.{find_slot}
use Rattle.cell_model.proofs.cell_result.has_name.Given as goal

abbrev pub invariant-loop-e : goal.invariant-loop-e
invariant-loop-e l = find_slot (drop l.e-index l.slots) l.name ≡ find_slot l.slots l.name
