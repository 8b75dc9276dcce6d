use Rattle.std.proofs.Common.{◌≡◌, ◌∙◌, ap, codes, rules}
use Rattle.serde_json.specs.Data.{member, no_members, object, string}
use Rattle.serde_json.specs.View.{view, members_view}
use Rattle.serde_json.proofs.Views.{view-Object}
use Rattle.sheet_json.proofs.DatasetsBack.{drop_dataset_back}
use Rattle.sheet_json.proofs.datasets_json.drop_dataset_json.Goals as goal

pub returns : goal.returns
returns c =
    let fields : members_view c.in_ok-fields.fields.entries ≡ member (codes "dataset") (view c.in_ok-dataset.dataset) (member (codes "vizual") (string (codes "drop_dataset")) no_members) = search rules in
    drop_dataset_back c.args.dataset.now _ (view c.in_ok-dataset.dataset) c.in_ok-dataset.ensures (view-Object c.in_ok-fields.fields ∙ ap object fields)
