use Rattle.std.proofs.Common.{◌≡◌, ◌≤◌, [], vec_len}
use Rattle.notebook_grammar.specs.Machine.{symbols}
use Rattle.notebook_grammar.specs.Weights.{load}
use Rattle.notebook_grammar.proofs.machine.take_next.Given as goal

abbrev pub invariant-loop-frame : goal.invariant-loop-frame
invariant-loop-frame l = (symbols l.initial.stack.items [] ≡ symbols l.stack.items []) × (load l.stack.items ≤ load l.initial.stack.items)

abbrev pub decreases-loop-frame : goal.decreases-loop-frame
decreases-loop-frame l = vec_len l.stack
