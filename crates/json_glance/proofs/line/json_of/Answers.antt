use Rattle.std.proofs.Common.{◌≡◌, ℕ, List, Bool, true, false, refl, ap, sym, ◌∙◌, Some, None, Option, cond, IsUtf8, IsTrue}
use Rattle.std.specs.Str.{is_utf8}
use Rattle.std.proofs.lemmas.Str.{is_utf8-from_IsUtf8, IsUtf8-from_is_utf8}
use Rattle.serde_json.specs.Data.{Data}
use Rattle.serde_json.specs.Read.{read}
use Rattle.json_glance.specs.Line.{json_of}
use Rattle.json_glance.proofs.line.json_of.Goals as goal

is_read : (line : List ℕ) (d : Data) → IsUtf8 line → read line ≡ Some d → Some d ≡ json_of line
unfolding json_of
is_read line d u r = sym (ap (λ b. cond b (read line) None) (is_utf8-from_IsUtf8 line u) ∙ r)

at_test : (b : Bool) (o : Option Data) → (b ≡ true → o ≡ None) → None ≡ cond b o None
at_test true o h = sym (h refl)
at_test false o h = refl

is_not_read : (line : List ℕ) → (IsUtf8 line → read line ≡ None) → None ≡ json_of line
unfolding json_of
is_not_read line h = at_test (is_utf8 line) (read line) (λ e. h (IsUtf8-from_is_utf8 line e))

pub returns-in-Ok : goal.returns-in-Ok
returns-in-Ok c = is_read _ _ c.in-Ok.ensures.ok.0 c.in-Ok.ensures.ok.1

not_true : (b : Bool) → b ≡ false → IsTrue b → ⊥
not_true true e t = cc
not_true false e t = cc

pub returns-else-is_memory : goal.returns-else-is_memory
returns-else-is_memory c = is_not_read _ (c.in-Err.ensures.err (λ m. not_true _ c.if-is_memory.false (c.is_memory.ensures.1 m)))
