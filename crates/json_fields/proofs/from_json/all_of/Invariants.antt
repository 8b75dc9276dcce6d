use Rattle.std.proofs.Common.{◌≡◌, ◌++◌, drop, option_map}
use Rattle.serde_json.specs.View.{items_view}
use Rattle.json_fields.specs.Json.{all_of}
use Rattle.json_fields.proofs.from_json.all_of.Given as goal

-- what is found so far, before what is left
abbrev pub invariant-loop-json : goal.invariant-loop-json
invariant-loop-json g l =
    let meaning = g.T.FromJson.meaning in
    option_map (λ rest. l.found.items ++ rest) (all_of meaning (items_view (drop l.json-index l.list))) ≡ all_of meaning (items_view l.list)
