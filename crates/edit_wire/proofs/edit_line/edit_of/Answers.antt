use Rattle.std.proofs.Common.{◌≡◌, false, sym, ap, ◌∙◌, rules}
use Rattle.json_glance.specs.Line.{json_of}
use Rattle.edit_wire.specs.EditWords.{is_edit_word}
use Rattle.edit_wire.proofs.EditWords.{no_text, no_word}
use Rattle.edit_wire.proofs.edit_line.edit_of.Goals as goal

pub returns-in-NoText-clause-value : goal.returns-in-NoText-clause-value
returns-in-NoText-clause-value c = no_text (json_of c.args.line.now) (sym c.in-NoText.is ∙ c.in_ok-glance_at.ensures)

pub returns-clause-value : goal.returns-clause-value
returns-clause-value c =
    let other : is_edit_word c.in-Text.word ≡ false = ap is_edit_word (sym c.as_slice.ensures) ∙ sym c.is_edit_word.ensures ∙ search rules in
    no_word (json_of c.args.line.now) c.in-Text.word (sym c.in-Text.is ∙ c.in_ok-glance_at.ensures) other
