use Rattle.std.proofs.Common.{sym, subst}
use Rattle.serde_json.proofs.Views.{view-Array}
use Rattle.json_fields.specs.Written.{IsJsonOf, bare_values, values_in}
use Rattle.json_fields.proofs.Back.{row_back}
use Rattle.json_fields.proofs.values_json.RowToJson.to_json.Goals as goal

pub returns : goal.returns
returns c =
    subst (IsJsonOf bare_values 2 (values_in c.args.self.now)) (sym (view-Array c.in_ok-each_json.field-0))
    (row_back c.args.self.now c.as_slice.result.now c.in_ok-each_json.field-0.items c.as_slice.ensures c.in_ok-each_json.ensures)
