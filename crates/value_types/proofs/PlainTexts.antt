-- Texts that stand between quotes as they are.
use Rattle.std.proofs.Common.{◌≡◌, ◌≢◌, Bool, true, false, List, ℕ, ◌∷◌, [], ◌++◌, ◌<◌, ◌≤◌, append_assoc, ap, sym, ◌∙◌, refl, ⊎_elim, arith, rules}
use Rattle.std.specs.Str.{IsUtf8, chars}
use Rattle.std.specs.List.{flat_map, list_all}
use Rattle.std.proofs.lemmas.Bool.{ne_eqb, le-ltb, cases_lt, and_parts}
use Rattle.std.proofs.lemmas.Bool.Decides.{nat_tests}
use Rattle.std.proofs.lemmas.Grind.{flat_map-append}
use Rattle.std.proofs.lemmas.Str.{chars_from_encodes, encodes-chars, encode_ascii}
use Rattle.std.proofs.lemmas.List.Folds.{list_all-append}
use lib.Utf8.{encodes, encode}
use Rattle.value_types.specs.Text.{escaped, inner, is_plain}

pub ruleset quotes = (flat_map-append, append_assoc, chars_from_encodes)

-- a character with no escape is written as it is
unescaped : (c : ℕ) → 32 ≤ c → c ≢ 34 → c ≢ 92 → escaped c ≡ encode c
unescaped c low quote slash = rw (ne_eqb c 34 quote, ne_eqb c 92 slash, ne_eqb c 10 (λ e. omega arith), ne_eqb c 13 (λ e. omega arith), ne_eqb c 9 (λ e. omega arith), le-ltb c 32 low) refl

plain_parts : (b : ℕ) → is_plain b ≡ true → (32 ≤ b) × (b ≢ 34) × (b ≢ 92)
plain_parts b h = (grind (arith, nat_tests), grind (arith, nat_tests), grind (arith, nat_tests))

plain_char : (c : ℕ) → list_all is_plain (encode c) ≡ true → escaped c ≡ encode c
plain_char c all =
    ⊎_elim (λ small. let p : (32 ≤ c) × (c ≢ 34) × (c ≢ 92) = plain_parts c (and_parts (is_plain c) true (ap (list_all is_plain) (sym (encode_ascii c small)) ∙ all)).0 in unescaped c p.0 p.1 p.2)
    (λ large. unescaped c (omega arith) (λ e. omega arith) (λ e. omega arith))
    (cases_lt c 128)

plain_chars : (cs : List ℕ) → list_all is_plain (encodes cs) ≡ true → flat_map escaped cs ≡ encodes cs
plain_chars [] all = refl
plain_chars (c ∷ cs) all =
    let parts = and_parts (list_all is_plain (encode c)) (list_all is_plain (encodes cs)) (sym (list_all-append is_plain (encode c) (encodes cs)) ∙ all) in
    ap (λ x. x ++ flat_map escaped cs) (plain_char c parts.0) ∙ ap (λ x. encode c ++ x) (plain_chars cs parts.1)

-- a text of plain bytes stands as it is
pub inner_plain : (t : List ℕ) → IsUtf8 t → list_all is_plain t ≡ true → inner t ≡ t
inner_plain t utf8 all =
    plain_chars (chars t) (ap (list_all is_plain) (encodes-chars t utf8) ∙ all) ∙ encodes-chars t utf8

pub ruleset plain = (inner_plain, append_assoc)
