use Rattle.std.proofs.Common.{◌≡◌, ◌++◌, drop}
use Rattle.csv_load.specs.Names.{cleaned}
use Rattle.csv_load.proofs.Cleaning.{to_come}
use Rattle.csv_load.proofs.clean.cleaned.Given as goal

abbrev pub invariant-loop-byte : goal.invariant-loop-byte
invariant-loop-byte l = cleaned l.field ≡ l.text.items ++ to_come l.text.items l.apart (drop l.byte-index l.field)
