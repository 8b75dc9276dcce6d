use Rattle.std.proofs.Common.{◌≡◌, ◌∙◌, ap, codes, rules}
use Rattle.serde_json.specs.Data.{member, no_members, object, string}
use Rattle.serde_json.specs.View.{view, members_view}
use Rattle.serde_json.proofs.Views.{view-Object}
use Rattle.sheet_json.proofs.ColumnsBack.{formula_back}
use Rattle.sheet_json.proofs.columns_json.formula_json.Goals as goal

pub returns : goal.returns
returns c =
    let fields : members_view c.put-2.new.map.entries ≡ member (codes "column") (view c.in_ok-column.column) (member (codes "dataset") (view c.in_ok-dataset.dataset) (member (codes "text") (string c.args.text.now) (member (codes "vizual") (string (codes "formula")) no_members))) = search rules in
    formula_back c.args.dataset.now c.args.column.now c.args.text.now _ (view c.in_ok-dataset.dataset) (view c.in_ok-column.column) c.in_ok-dataset.ensures c.in_ok-column.ensures (view-Object c.put-2.new.map ∙ ap object fields)
