use Rattle.std.proofs.Common.{◌≡◌, ◌++◌, drop, codes}
use Rattle.std.specs.List.{flat_map}
use Rattle.report_text.proofs.pieces.push_rest.Given as goal

abbrev pub invariant-loop-item : goal.invariant-loop-item
invariant-loop-item g l = l.out ++ flat_map (λ y. codes ", " ++ g.T.Shown.text y) (drop l.item-index l.items) ≡ l.fn.out ++ flat_map (λ y. codes ", " ++ g.T.Shown.text y) l.items
