use Rattle.std.proofs.Common.{◌≡◌, drop}
use Rattle.std.specs.Option.{option_copied}
use Rattle.dataset_types.specs.Picks.{choice_of, later}
use Rattle.dataset_types.proofs.picks.Picks.choice.Given as goal

abbrev pub invariant-loop-pick : goal.invariant-loop-pick
invariant-loop-pick l = choice_of l.self l.cell l.site ≡ later (option_copied l.found) (choice_of (drop l.pick-index l.self) l.cell l.site)
