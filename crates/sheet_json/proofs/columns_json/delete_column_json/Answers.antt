use Rattle.std.proofs.Common.{◌≡◌, ◌∙◌, ap, codes, rules}
use Rattle.serde_json.specs.Data.{member, no_members, object, string}
use Rattle.serde_json.specs.View.{view, members_view}
use Rattle.serde_json.proofs.Views.{view-Object}
use Rattle.sheet_json.proofs.ColumnsBack.{delete_column_back}
use Rattle.sheet_json.proofs.columns_json.delete_column_json.Goals as goal

pub returns : goal.returns
returns c =
    let fields : members_view c.put.new.map.entries ≡ member (codes "dataset") (view c.in_ok-dataset.dataset) (member (codes "name") (view c.in_ok-name.name) (member (codes "vizual") (string (codes "delete_column")) no_members)) = search rules in
    delete_column_back c.args.dataset.now c.args.name.now _ (view c.in_ok-dataset.dataset) (view c.in_ok-name.name) c.in_ok-dataset.ensures c.in_ok-name.ensures (view-Object c.put.new.map ∙ ap object fields)
