use Rattle.std.proofs.Common.{◌≡◌, ◌∙◌, ap, codes, rules}
use Rattle.serde_json.specs.Data.{member, no_members, object, string}
use Rattle.serde_json.specs.View.{view, members_view}
use Rattle.serde_json.proofs.Views.{view-Object}
use Rattle.sheet_json.proofs.DatasetsBack.{copy_dataset_back}
use Rattle.sheet_json.proofs.datasets_json.copy_dataset_json.Goals as goal

pub returns : goal.returns
returns c =
    let fields : members_view c.put.new.map.entries ≡ member (codes "dataset") (view c.in_ok-dataset.dataset) (member (codes "to") (view c.in_ok-to.to) (member (codes "vizual") (string (codes "copy_dataset")) no_members)) = search rules in
    copy_dataset_back c.args.dataset.now c.args.to.now _ (view c.in_ok-dataset.dataset) (view c.in_ok-to.to) c.in_ok-dataset.ensures c.in_ok-to.ensures (view-Object c.put.new.map ∙ ap object fields)
