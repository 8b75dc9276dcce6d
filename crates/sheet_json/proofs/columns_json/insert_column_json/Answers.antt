use Rattle.std.proofs.Common.{◌≡◌, ◌∙◌, ap, codes, rules}
use Rattle.serde_json.specs.Data.{member, no_members, number, object, string, unsigned}
use Rattle.serde_json.specs.View.{view, members_view}
use Rattle.serde_json.proofs.Views.{view-Object}
use Rattle.sheet_json.proofs.ColumnsBack.{insert_column_back}
use Rattle.sheet_json.proofs.columns_json.insert_column_json.Goals as goal

pub returns : goal.returns
returns c =
    let fields : members_view c.put-3.new.map.entries ≡ member (codes "at") (number (unsigned c.args.at)) (member (codes "dataset") (view c.in_ok-dataset.dataset) (member (codes "name") (view c.in_ok-name.name) (member (codes "type") (string c.type_word-word.result.now) (member (codes "vizual") (string (codes "insert_column")) no_members)))) = search rules in
    insert_column_back c.args.dataset.now c.args.name.now c.args.kind c.args.at _ (view c.in_ok-dataset.dataset) (view c.in_ok-name.name) c.type_word-word.result.now c.in_ok-dataset.ensures c.in_ok-name.ensures c.type_word-word.ensures c.ranges.at.fits (view-Object c.put-3.new.map ∙ ap object fields)
