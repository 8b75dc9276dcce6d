use Rattle.std.proofs.Common.{◌≡◌, ◌∙◌, ap, codes, rules}
use Rattle.serde_json.specs.Data.{member, no_members, object, string}
use Rattle.serde_json.specs.View.{view, members_view}
use Rattle.serde_json.proofs.Views.{view-Object}
use Rattle.sheet_json.proofs.RowsBack.{set_value_back}
use Rattle.sheet_json.proofs.rows_json.set_value_json.Goals as goal

pub returns : goal.returns
returns c =
    let fields : members_view c.put-3.new.map.entries ≡ member (codes "column") (view c.in_ok-column.column) (member (codes "dataset") (view c.in_ok-dataset.dataset) (member (codes "row") (string c.args.row.now) (member (codes "value") (view c.in_ok-value.value) (member (codes "vizual") (string (codes "set_value")) no_members)))) = search rules in
    set_value_back c.args.dataset.now c.args.row.now c.args.column.now c.args.value.now _ (view c.in_ok-dataset.dataset) (view c.in_ok-column.column) (view c.in_ok-value.value) c.in_ok-dataset.ensures c.in_ok-column.ensures c.in_ok-value.ensures (view-Object c.put-3.new.map ∙ ap object fields)
