use Rattle.std.proofs.Common.{◌≡◌, ◌∙◌, ap, codes, rules}
use Rattle.serde_json.specs.Data.{Data, array, member, no_members, object, string}
use Rattle.serde_json.specs.View.{view, items_view, members_view}
use Rattle.serde_json.specs.declared.value.Value.{Array}
use Rattle.serde_json.proofs.Views.{view-Array, view-Object}
use Rattle.sheet_json.proofs.RowsBack.{sort_back}
use Rattle.json_fields.proofs.ListsBack.{sorted_whole, by_back}
use Rattle.sheet_json.proofs.rows_json.sort_json.Goals as goal

pub returns : goal.returns
returns c =
    let each = c.in_ok-by.by.items in
    let rest = member (codes "dataset") (view c.in_ok-dataset.dataset) (member (codes "vizual") (string (codes "sort")) no_members) in
    let put : members_view c.put.new.map.entries ≡ member (codes "by") (view (Array c.in_ok-by.by)) rest = search rules in
    let fields : members_view c.put.new.map.entries ≡ member (codes "by") (array (items_view each)) rest = put ∙ ap (λ (d : Data). member (codes "by") d rest) (view-Array c.in_ok-by.by) in
    sort_back c.args.dataset.now c.args.by.now _ (view c.in_ok-dataset.dataset) (items_view each) c.in_ok-dataset.ensures (sorted_whole c.args.by.now c.requires) (by_back c.args.by.now c.as_slice.result.now each c.as_slice.ensures c.in_ok-by.ensures) (view-Object c.put.new.map ∙ ap object fields)
