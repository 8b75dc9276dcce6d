-- The cores that are left add the rest.
use Rattle.std.proofs.Common.{◌≡◌, [], drop}
use Rattle.std.specs.List.{flat_map}
use Rattle.sql_parse.specs.Names.{datasets_of}
use Rattle.name_lists.specs.Nub.{all_added}
use Rattle.sql_parse.proofs.names.names_of.Given as goal

abbrev pub invariant-loop-core : goal.invariant-loop-core
invariant-loop-core l = all_added l.names (flat_map datasets_of (drop l.core-index l.core-items)) ≡ all_added [] (flat_map datasets_of l.core-items)
