use Rattle.std.proofs.Common.{◌≡◌, ◌∙◌, ap, codes, rules}
use Rattle.serde_json.specs.Data.{unsigned, number, string, object, member, no_members}
use Rattle.serde_json.specs.View.{view, members_view}
use Rattle.serde_json.proofs.Views.{view-Object}
use Rattle.edit_wire.proofs.EditBack.{branch_back}
use Rattle.edit_wire.proofs.edit_json.branch_json.Goals as goal

pub returns : goal.returns
returns c =
    let fields : members_view c.put.new.map.entries ≡ member (codes "branch") (view c.in_ok-branch.branch) (member (codes "edit") (string (codes "branch")) (member (codes "from") (number (unsigned c.args.from)) no_members)) = search rules in
    branch_back c.args.branch.now c.args.from _ (view c.in_ok-branch.branch) c.ranges.from.fits c.in_ok-branch.ensures (view-Object c.put.new.map ∙ ap object fields)
