use Rattle.std.proofs.Common.{◌≡◌, ◌∙◌, ap, codes, rules}
use Rattle.serde_json.specs.Data.{unsigned, number, string, object, member, no_members}
use Rattle.serde_json.specs.View.{view, members_view}
use Rattle.serde_json.proofs.Views.{view-Object}
use Rattle.edit_wire.proofs.EditBack.{insert_back}
use Rattle.edit_wire.proofs.edit_json.insert_json.Goals as goal

pub returns : goal.returns
returns c =
    let fields : members_view c.put-2.new.map.entries ≡ member (codes "at") (number (unsigned c.args.at)) (member (codes "branch") (view c.in_ok-branch.branch) (member (codes "cell") (view c.in_ok-cell.cell) (member (codes "edit") (string (codes "insert")) no_members))) = search rules in
    insert_back c.args.branch.now c.args.at c.args.cell.now _ (view c.in_ok-branch.branch) (view c.in_ok-cell.cell) c.ranges.at.fits c.in_ok-branch.ensures c.in_ok-cell.ensures (view-Object c.put-2.new.map ∙ ap object fields)
