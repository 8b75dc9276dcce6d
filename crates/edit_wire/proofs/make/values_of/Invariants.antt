use Rattle.std.proofs.Common.{◌≡◌, ◌++◌, drop, option_map}
use Rattle.serde_json.specs.View.{items_view}
use Rattle.edit_wire.specs.Make.{values_of}
use Rattle.edit_wire.proofs.make.values_of.Given as goal

-- what is found so far, before what is left
abbrev pub invariant-loop-column : goal.invariant-loop-column
invariant-loop-column l =
    option_map (λ more. l.found ++ more) (values_of (drop l.column-index l.columns) (items_view l.rest)) ≡ values_of l.columns (items_view l.list)
