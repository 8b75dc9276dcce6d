-- The text at a name, with a member more.
use Rattle.std.proofs.Common.{◌≡◌, ℕ, List, Bool, true, false, cond, option_and_then, bytes_eq, true≢false, refl, sym, ap, ◌∙◌, subst}
use Rattle.std.proofs.lemmas.Slice.Eq.{bytes_eq-Decides}
use Rattle.serde_json.specs.Data.{Data, Members, put}
use Rattle.serde_json.specs.Find.{get_member, as_str}
use Rattle.serde_json.proofs.Views.{get_member-put, get_member-put_other}

differ : (k name : List ℕ) → bytes_eq k name ≡ false → name ≡ k → ⊥
differ k name e same = true≢false (sym ((bytes_eq-Decides k name).1 (sym same)) ∙ e)

put_text_at : (name k : List ℕ) (d : Data) (ms : Members) (b : Bool) → bytes_eq k name ≡ b
    → option_and_then as_str (get_member name (put k d ms)) ≡ cond b (as_str d) (option_and_then as_str (get_member name ms))
put_text_at name k d ms true e =
    subst (λ n. option_and_then as_str (get_member n (put k d ms)) ≡ as_str d) ((bytes_eq-Decides k name).0 e) (ap (option_and_then as_str) (get_member-put k d ms))
put_text_at name k d ms false e = ap (option_and_then as_str) (get_member-put_other name k d ms (differ k name e))

-- the member that is put last gives the text where its key is the name
pub put_text : (name k : List ℕ) (d : Data) (ms : Members)
    → option_and_then as_str (get_member name (put k d ms)) ≡ cond (bytes_eq k name) (as_str d) (option_and_then as_str (get_member name ms))
put_text name k d ms = put_text_at name k d ms (bytes_eq k name) refl
