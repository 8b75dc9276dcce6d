use Rattle.std.proofs.Common.{◌≡◌, drop}
use Rattle.column_edits.specs.Plans.{find, find_all}
use Rattle.relations.proofs.Collecting.{rest_of}
use Rattle.column_edits.proofs.plans.find_all.Given as goal

abbrev pub invariant-loop-name : goal.invariant-loop-name
invariant-loop-name l = find_all l.names l.layout ≡ rest_of l.all (λ name. find name l.layout) (drop l.name-index l.names)
