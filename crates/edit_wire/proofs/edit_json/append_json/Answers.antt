use Rattle.std.proofs.Common.{◌≡◌, ◌∙◌, ap, codes, rules}
use Rattle.serde_json.specs.Data.{string, object, member, no_members}
use Rattle.serde_json.specs.View.{view, members_view}
use Rattle.serde_json.proofs.Views.{view-Object}
use Rattle.edit_wire.proofs.EditBack.{append_back}
use Rattle.edit_wire.proofs.edit_json.append_json.Goals as goal

pub returns : goal.returns
returns c =
    let fields : members_view c.put.new.map.entries ≡ member (codes "branch") (view c.in_ok-branch.branch) (member (codes "cell") (view c.in_ok-cell.cell) (member (codes "edit") (string (codes "append")) no_members)) = search rules in
    append_back c.args.branch.now c.args.cell.now _ (view c.in_ok-branch.branch) (view c.in_ok-cell.cell) c.in_ok-branch.ensures c.in_ok-cell.ensures (view-Object c.put.new.map ∙ ap object fields)
