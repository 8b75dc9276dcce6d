use Rattle.std.proofs.Common.{◌≡◌, drop}
use Rattle.ll1_grammar.specs.Table.{nests}
use Rattle.ll1_grammar.proofs.item.fits.Given as goal

abbrev pub invariant-loop-item : goal.invariant-loop-item
invariant-loop-item g l = (l.room ≡ 0) × (nests l.items ≡ nests (drop l.item-index l.items))
