use Rattle.std.proofs.Common.{◌≡◌, ◌+◌, ◌++◌, drop, option_map}
use Rattle.serde_json.specs.View.{items_view}
use Rattle.edit_wire.specs.Make.{rows_from}
use Rattle.edit_wire.proofs.make.rows_of.Given as goal

-- the number of the next row, and what is found so far, before what is left
abbrev pub invariant-loop-json : goal.invariant-loop-json
invariant-loop-json l =
    let rest = items_view (drop l.json-index l.list) in
    record {
      number : l.number ≡ l.json-index + 1;
      rows : option_map (λ more. l.found ++ more) (rows_from l.columns l.number rest) ≡ rows_from l.columns 1 (items_view l.list);
    }
