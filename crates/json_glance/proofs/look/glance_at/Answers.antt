use Rattle.std.proofs.Common.{◌≡◌, ℕ, List, Bool, true, false, None, cond, IsUtf8, refl, sym, ap, ◌∙◌, subst}
use Rattle.std.specs.Prelude.{IfOk}
use Rattle.std.specs.Str.{is_utf8}
use Rattle.std.proofs.lemmas.Str.{is_utf8-from_IsUtf8, IsUtf8-from_is_utf8}
use Rattle.serde_json.specs.Read.{read}
use Rattle.json_glance.specs.Line.{json_of, glance_at}
use Rattle.json_glance.proofs.look.glance_at.Goals as goal

utf8_read : (line : List ℕ) → IsUtf8 line → read line ≡ json_of line
unfolding json_of
utf8_read line u = sym (ap (λ b. cond b (read line) None) (is_utf8-from_IsUtf8 line u))

at_test : (line : List ℕ) (b : Bool) → is_utf8 line ≡ b → ¬ (IsUtf8 line) → cond b (read line) None ≡ None
at_test line true e other = absurd (other (IsUtf8-from_is_utf8 line e))
at_test line false e other = refl

not_utf8 : (line : List ℕ) → ¬ (IsUtf8 line) → json_of line ≡ None
unfolding json_of
not_utf8 line other = at_test line (is_utf8 line) refl other

pub returns-in-Ok : goal.returns-in-Ok
returns-in-Ok c =
    let line = c.args.line.now in
    let same : read c.in-Ok.text.now ≡ json_of line = ap read c.in-Ok.ensures.cases.0 ∙ utf8_read line c.in-Ok.ensures.cases.1 in
    subst (λ o. IfOk c.glance_at_text.result (λ g. g ≡ glance_at c.args.name.now o)) same c.glance_at_text.ensures

pub returns-in-Err : goal.returns-in-Err
returns-in-Err c = sym (ap (glance_at c.args.name.now) (not_utf8 c.args.line.now c.in-Err.ensures.cases.0))
