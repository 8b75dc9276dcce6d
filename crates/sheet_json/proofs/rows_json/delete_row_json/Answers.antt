use Rattle.std.proofs.Common.{◌≡◌, ◌∙◌, ap, codes, rules}
use Rattle.serde_json.specs.Data.{member, no_members, object, string}
use Rattle.serde_json.specs.View.{view, members_view}
use Rattle.serde_json.proofs.Views.{view-Object}
use Rattle.sheet_json.proofs.RowsBack.{delete_row_back}
use Rattle.sheet_json.proofs.rows_json.delete_row_json.Goals as goal

pub returns : goal.returns
returns c =
    let fields : members_view c.put.new.map.entries ≡ member (codes "dataset") (view c.in_ok-dataset.dataset) (member (codes "row") (string c.args.row.now) (member (codes "vizual") (string (codes "delete_row")) no_members)) = search rules in
    delete_row_back c.args.dataset.now c.args.row.now _ (view c.in_ok-dataset.dataset) c.in_ok-dataset.ensures (view-Object c.put.new.map ∙ ap object fields)
