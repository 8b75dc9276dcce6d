use Rattle.std.proofs.Common.{◌≡◌, ◌∙◌, ap, codes, rules}
use Rattle.serde_json.specs.Data.{member, no_members, object, string}
use Rattle.serde_json.specs.View.{view, members_view}
use Rattle.serde_json.proofs.Views.{view-Object}
use Rattle.sheet_json.proofs.RowsBack.{move_row_back}
use Rattle.sheet_json.proofs.rows_json.move_row_json.Goals as goal

pub returns : goal.returns
returns c =
    let fields : members_view c.put-2.new.map.entries ≡ member (codes "after") (view c.in_ok-after.after) (member (codes "dataset") (view c.in_ok-dataset.dataset) (member (codes "row") (string c.args.row.now) (member (codes "vizual") (string (codes "move_row")) no_members))) = search rules in
    move_row_back c.args.dataset.now c.args.row.now c.args.after.now _ (view c.in_ok-dataset.dataset) (view c.in_ok-after.after) c.in_ok-dataset.ensures c.in_ok-after.ensures (view-Object c.put-2.new.map ∙ ap object fields)
