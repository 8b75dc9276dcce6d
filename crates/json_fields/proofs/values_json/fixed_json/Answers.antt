use Rattle.std.proofs.Common.{◌≡◌, codes, rules}
use Rattle.serde_json.specs.Data.{string, object, member, no_members}
use Rattle.serde_json.specs.View.{view}
use Rattle.serde_json.specs.declared.value.Value.{the_lemmas}
use Rattle.json_fields.proofs.Back.{fixed_back}
use Rattle.json_fields.proofs.values_json.fixed_json.Goals as goal

pub returns : goal.returns
returns c =
    let built : view c.in_ok-json.field-0 ≡ object (member (codes "fixed") (string c.as_text.result.now) no_members) = search (rules, the_lemmas) in
    fixed_back c.args.count c.as_text.result.now _ c.ranges.count (search rules) built
