use Rattle.std.proofs.Common.{◌≡◌, ◌+◌, ◌-◌, ◌*◌, ◌≤◌, [], Some, None, IfSome, length}
use Rattle.ll1_grammar.specs.Reader.{IsAt}
use Rattle.notebook_grammar.specs.Language.{language, start_of}
use Rattle.notebook_grammar.specs.Limits.{counted}
use Rattle.notebook_grammar.specs.Machine.{symbols}
use Rattle.notebook_grammar.specs.Weights.{load}
use Rattle.notebook_grammar.proofs.machine.run.Given as goal

abbrev pub invariant-loop-stack : goal.invariant-loop-stack
invariant-loop-stack l =
    IsAt language (start_of l.fn.start) l.lexemes l.at (symbols l.stack.items []) l.steps × (counted None l.steps ≡ Some l.count) × IfSome l.count (λ n. n ≤ 1000)

abbrev pub decreases-loop-stack : goal.decreases-loop-stack
decreases-loop-stack l = load l.stack.items + 72 * (length l.lexemes - l.at)
