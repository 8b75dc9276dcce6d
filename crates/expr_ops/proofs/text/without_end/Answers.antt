use Rattle.std.proofs.Common.{arith, rules, sym, ◌∙◌}
use Rattle.std.proofs.lemmas.Str.Pattern.{strip_suffix_char}
use Rattle.expr_ops.proofs.Ends.{end_goes, end_stays}
use Rattle.expr_ops.proofs.text.without_end.Goals as goal

pub loop-before-preserved : goal.loop-before-preserved
loop-before-preserved c =
    let found = strip_suffix_char 32 c.loop-before.rest.now c.strip_suffix.result c.strip_suffix.ensures.cases (omega arith) in
    let e = rw c.in-Some.is at found in
    (sym (end_goes c.loop-before.rest.now c.in-Some.before.now e) ∙ c.loop-before.invariant.0, search rules)

pub returns : goal.returns
returns c =
    let found = strip_suffix_char 32 c.loop-before.rest.now c.strip_suffix.result c.strip_suffix.ensures.cases (omega arith) in
    let none = rw c.in_default.is at found in
    sym (end_stays c.loop-before.rest.now none) ∙ c.loop-before.invariant.0
