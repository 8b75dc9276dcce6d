use Rattle.std.proofs.Common.{◌≡◌, codes, rules}
use Rattle.serde_json.specs.Data.{member, no_members, object, string}
use Rattle.serde_json.specs.View.{view}
use Rattle.serde_json.specs.declared.value.Value.{the_lemmas}
use Rattle.edit_wire.proofs.SqlBack.{sql_back}
use Rattle.edit_wire.proofs.sql.sql_json.Goals as goal

pub returns : goal.returns
returns c =
    let built : view c.in_ok-json.field-0 ≡ object (member (codes "into") (view c.in_ok-into.into) (member (codes "sql") (string c.args.text.now) no_members)) = search (rules, the_lemmas) in
    sql_back c.args.text.now c.args.into.now _ (view c.in_ok-into.into) c.in_ok-into.ensures built
