use Rattle.std.proofs.Common.{take}
use Rattle.std.specs.List.{AllZip}
use Rattle.serde_json.specs.View.{view}
use Rattle.json_fields.proofs.to_json.each_json.Given as goal

-- each thing so far has its JSON
abbrev pub invariant-loop-item : goal.invariant-loop-item
invariant-loop-item g l = AllZip (λ x json. g.T.ToJson.says x (view json)) (take l.item-index l.list) l.found.items
