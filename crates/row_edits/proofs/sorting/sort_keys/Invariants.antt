use Rattle.std.proofs.Common.{◌≡◌, drop}
use Rattle.relations.proofs.Collecting.{rest_of}
use Rattle.row_edits.specs.Sort.{sort_key, sort_keys}
use Rattle.row_edits.proofs.sorting.sort_keys.Given as goal

abbrev pub invariant-loop-one : goal.invariant-loop-one
invariant-loop-one l = sort_keys l.columns l.by ≡ rest_of l.keys (sort_key l.columns) (drop l.one-index l.by)
