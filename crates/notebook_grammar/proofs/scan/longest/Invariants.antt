use Rattle.std.proofs.Common.{◌≡◌, drop, Some, None}
use Rattle.notebook_grammar.specs.declared.scan.State.TheVariants as state
use Rattle.notebook_grammar.proofs.Munching.{munch}
use Rattle.notebook_grammar.proofs.scan.longest.Given as goal

abbrev pub invariant-loop-byte : goal.invariant-loop-byte
invariant-loop-byte l = (munch (Some l.state) l.length l.best (drop l.byte-index l.text) ≡ munch (Some state.Start) 0 None l.text) × (l.length ≡ l.byte-index)
