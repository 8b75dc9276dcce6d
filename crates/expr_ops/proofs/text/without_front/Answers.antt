use Rattle.std.proofs.Common.{arith, sym, ◌∙◌}
use Rattle.std.proofs.lemmas.Str.Pattern.{strip_prefix_char}
use Rattle.expr_ops.proofs.Ends.{front_stays}
use Rattle.expr_ops.proofs.text.without_front.Goals as goal

pub returns : goal.returns
returns c =
    let found = strip_prefix_char 32 c.loop-after.rest.now c.strip_prefix.result c.strip_prefix.ensures.cases (omega arith) in
    let none = rw c.in_default.is at found in
    sym (front_stays c.loop-after.rest.now none) ∙ c.loop-after.invariant.0
