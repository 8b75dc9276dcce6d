use Rattle.std.proofs.Common.{◌∙◌, ap, sym, subst}
use Rattle.std.proofs.lemmas.Result.{IfOk-weaker}
use Rattle.edit_wire.specs.Plain.{IsOneLine}
use Rattle.edit_wire.specs.Wire.{edit_of}
use Rattle.edit_wire.proofs.EditBack.{line_back}
use Rattle.edit_wire.proofs.OneLine.{compact_one_line}
use Rattle.edit_wire.proofs.edit_json.line_of.Goals as goal

pub returns-clause-reads_back : goal.returns-clause-reads_back
returns-clause-reads_back c =
    let back = line_back c.args.edit.now _ c.in_ok-line.line.items c.in_ok-json.ensures c.in_ok-line.ensures.utf8 c.in_ok-line.ensures.reads_back in
    IfOk-weaker c.from_slice.result _ _ (λ line e. ap edit_of (e ∙ c.as_slice.ensures.value) ∙ back) c.from_slice.ensures

pub returns-clause-one_line : goal.returns-clause-one_line
returns-clause-one_line c =
    let compact = compact_one_line c.in_ok-line.line.items c.in_ok-line.ensures.compact in
    IfOk-weaker c.from_slice.result _ _ (λ line e. subst IsOneLine (sym (e ∙ c.as_slice.ensures.value)) compact) c.from_slice.ensures
