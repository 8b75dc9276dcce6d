use Rattle.std.proofs.Common.{◌≡◌, ◌∙◌, codes, rules}
use Rattle.serde_json.specs.Data.{array, object, member, no_members}
use Rattle.serde_json.specs.View.{view, items_view}
use Rattle.serde_json.specs.declared.value.Value.{the_lemmas}
use Rattle.json_fields.proofs.Back.{columns_back, rows_back}
use Rattle.edit_wire.proofs.Back.{make_back}
use Rattle.edit_wire.proofs.make_json.make_json.Goals as goal

pub returns : goal.returns
returns c =
    let heads = c.in_ok-columns.columns.items in
    let rows = c.in_ok-rows.rows.items in
    let built : view c.in_ok-json.field-0 ≡ object (member (codes "columns") (array (items_view heads)) (member (codes "make") (view c.in_ok-name.name) (member (codes "rows") (array (items_view rows)) no_members))) =
    search (rules, the_lemmas) in
    make_back c.args.name.now c.args.table.now _ (view c.in_ok-name.name) (items_view heads) (items_view rows) c.law_of_rules.ensures c.requires c.in_ok-name.ensures
    (columns_back c.args.table.now.columns c.as_slice.result.now heads (c.as_slice.ensures ∙ c.columns.ensures) c.in_ok-columns.ensures)
    (rows_back c.args.table.now.rows c.as_slice-2.result.now rows (c.as_slice-2.ensures ∙ c.rows.ensures) c.in_ok-rows.ensures)
    built
