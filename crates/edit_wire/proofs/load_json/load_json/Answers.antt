use Rattle.std.proofs.Common.{◌≡◌, codes, rules}
use Rattle.serde_json.specs.Data.{string, array, object, member, no_members}
use Rattle.serde_json.specs.View.{view, items_view}
use Rattle.serde_json.specs.declared.value.Value.{the_lemmas}
use Rattle.json_fields.proofs.Back.{types_back}
use Rattle.edit_wire.proofs.Back.{load_back}
use Rattle.edit_wire.proofs.load_json.load_json.Goals as goal

pub returns : goal.returns
returns c =
    let types = c.in_ok-types.types.items in
    let built : view c.in_ok-json.field-0 ≡ object (member (codes "file") (string c.args.file.now) (member (codes "load") (view c.in_ok-name.name) (member (codes "repair") (string c.repair_word-word.result.now) (member (codes "types") (array (items_view types)) no_members)))) =
    search (rules, the_lemmas) in
    load_back c.args.name.now c.args.file.now c.args.types.now c.args.repair _ (view c.in_ok-name.name) (items_view types) c.repair_word-word.result.now c.requires c.in_ok-name.ensures c.repair_word-word.ensures
    (types_back c.args.types.now c.as_slice.result.now types c.as_slice.ensures c.in_ok-types.ensures)
    built
