-- What is left of the text goes on where the words end.
use Rattle.std.proofs.Common.{◌≡◌, false, ◌++◌}
use Rattle.std.specs.Str.Iter.{chars_rest}
use Rattle.expr_parse.specs.Values as spec
use Rattle.expr_parse.proofs.values.undoubled.Given as goal

abbrev pub invariant-loop-c : goal.invariant-loop-c
invariant-loop-c l = l.words ++ spec.undoubled l.after (chars_rest l.c-iterator) ≡ spec.undoubled false l.text
