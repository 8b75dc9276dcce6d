use Rattle.std.proofs.Common.{◌≡◌, ◌++◌, ◌<◌, ◌≤◌, List, [], ◌∷◌, length, option_map, Option, None, arith}
use Rattle.std.proofs.lemmas.List.{drop_all}
use Rattle.serde_json.specs.View.{items_view}
use Rattle.serde_json.specs.declared.value.Value.{Value}
use Rattle.dataset_types.specs.declared.row.Marked.{Marked}
use Rattle.edit_wire.specs.Make.{values_of}
use Rattle.edit_wire.proofs.make.values_of.Goals as goal

-- an item beyond the columns fits none
beyond : (found : List Marked) (rest : List Value) (all : Option (List Marked)) → 0 < length rest
    → option_map (λ more. found ++ more) (values_of [] (items_view rest)) ≡ all → None ≡ all
beyond found [] all h e = absurd (omega (arith, h))
beyond found (x ∷ xs) all h e = e

pub returns-then-rest-gt0 : goal.returns-then-rest-gt0
returns-then-rest-gt0 c =
    let past : length c.args.columns.now ≤ c.loop-column.column-index = omega arith in
    beyond c.loop-column.found c.loop-column.rest.now _ c.if-rest-gt0.true
    (rw (drop_all c.loop-column.column-index c.args.columns.now past) at c.loop-column.invariant)
