use Rattle.std.proofs.Common.{◌≡◌, ◌∙◌, Bool, true, false, Some, None, List, ℕ, refl, ap}
use Rattle.std.specs.Prelude.{if◌then◌else◌, IsUtf8, Option}
use Rattle.std.specs.Str.{is_utf8}
use Rattle.std.proofs.lemmas.Str.{IsUtf8-from_is_utf8, is_utf8-from_IsUtf8}
use Rattle.value_types.specs.declared.value.Value.{Value}
use Rattle.value_types.specs.declared.value.Value.TheVariants.{Text}
use Rattle.csv_load.specs.Guess.{read}
use Rattle.value_types.specs.declared.value.ColumnType.TheVariants as kind
use Rattle.csv_load.proofs.field.text_of.Goals as goal

text_read : (bytes : List ℕ) → IsUtf8 bytes → read kind.Text bytes ≡ Some (Text bytes)
text_read bytes valid = rw (is_utf8-from_IsUtf8 bytes valid) refl

no_text : (bytes : List ℕ) → (IsUtf8 bytes → ⊥) → read kind.Text bytes ≡ None
no_text bytes broken = by (is_utf8 bytes) refl
  where
    by : (t : Bool) → is_utf8 bytes ≡ t → read kind.Text bytes ≡ None
    by true e = absurd (broken (IsUtf8-from_is_utf8 bytes e))
    by false e = rw e refl

pub returns-in_ok-text_value-in-Ok : goal.returns-in_ok-text_value-in-Ok
returns-in_ok-text_value-in-Ok c =
    let text = c.in-Ok.ensures.cases in
    rw (text_read c.args.field.now text.1, c.in_ok-text_value-in-Ok.ensures, text.0) refl

pub returns-in-Err : goal.returns-in-Err
returns-in-Err c = rw (no_text c.args.field.now c.in-Err.ensures.cases.0) refl
