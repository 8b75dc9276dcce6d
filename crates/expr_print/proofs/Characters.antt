-- Texts whose quotes are written twice, by their characters.
use Rattle.std.proofs.Common.{◌≡◌, ◌≢◌, ℕ, ◌+◌, ◌/◌, ◌%◌, Bool, true, false, cond, List, [], ◌∷◌, ◌++◌, refl, sym, ap, ◌∙◌, append_assoc, arith}
use Rattle.std.specs.Prelude.{if◌then◌else◌}
use Rattle.std.specs.List.{flat_map}
use Rattle.std.specs.Str.{IsUtf8, chars}
use Rattle.std.proofs.lemmas.Bool.{ne_eqb}
use Rattle.std.proofs.lemmas.Grind.{flat_map-append}
use Rattle.std.proofs.lemmas.Str.{chars_from_encodes, encodes-chars, encode_ascii}
use lib.Utf8.{encodes, encode}
use lib.Dec.{ltb}
use Rattle.expr_print.specs.Tokens.{twice, doubled}
use Rattle.expr_print.specs.Calls.{twice_character}
use Rattle.expr_print.proofs.Quotes.{twice_other, Quote, quote, other, quote_or}

-- no byte is a quote
abbrev NoQuotes : List ℕ → Type 0
NoQuotes [] = Unit {0}
NoQuotes (b ∷ bs) = (b ≢ 39) × NoQuotes bs

as_they_are : (bs : List ℕ) → NoQuotes bs → doubled bs ≡ bs
as_they_are [] h = refl
as_they_are (b ∷ bs) h = ap (λ x. x ++ doubled bs) (twice_other b h.0) ∙ ap (λ x. b ∷ x) (as_they_are bs h.1)

no_quotes : (c : ℕ) → c ≢ 39 → NoQuotes (encode c)
unfolding encode
no_quotes c ne = by_length (ltb c 128) (ltb c 2048) (ltb c 65536)
  where
    by_length : (x y z : Bool) → NoQuotes (cond x (c ∷ []) (cond y ((192 + c / 64) ∷ (128 + c % 64) ∷ []) (cond z ((224 + c / 4096) ∷ (128 + c / 64 % 64) ∷ (128 + c % 64) ∷ []) ((240 + c / 262144) ∷ (128 + c / 4096 % 64) ∷ (128 + c / 64 % 64) ∷ (128 + c % 64) ∷ []))))
    by_length true y z = (ne, tt)
    by_length false true z = ((λ e. omega (arith, e)), ((λ e. omega (arith, e)), tt))
    by_length false false true = ((λ e. omega (arith, e)), ((λ e. omega (arith, e)), ((λ e. omega (arith, e)), tt)))
    by_length false false false = ((λ e. omega (arith, e)), ((λ e. omega (arith, e)), ((λ e. omega (arith, e)), ((λ e. omega (arith, e)), tt))))

doubled_character : (c : ℕ) → doubled (encode c) ≡ twice_character c
doubled_character c = go (quote_or c)
  where
    go : Quote c → doubled (encode c) ≡ twice_character c
    go (quote is) = rw is (ap doubled (encode_ascii 39 (omega arith)))
    go (other ne) = as_they_are (encode c) (no_quotes c ne) ∙ sym (ap (λ t. if t then 39 ∷ 39 ∷ [] else encode c) (ne_eqb c 39 ne))

doubled_characters : (cs : List ℕ) → doubled (encodes cs) ≡ flat_map twice_character cs
doubled_characters [] = refl
doubled_characters (c ∷ cs) = flat_map-append twice (encode c) (encodes cs) ∙ ap (λ x. x ++ doubled (encodes cs)) (doubled_character c) ∙ ap (λ x. twice_character c ++ x) (doubled_characters cs)

-- the bytes of a text, by its characters
pub doubled_text : (t : List ℕ) → IsUtf8 t → flat_map twice_character (chars t) ≡ doubled t
doubled_text t utf8 = sym (doubled_characters (chars t)) ∙ ap doubled (encodes-chars t utf8)

pub ruleset characters = (doubled_text, flat_map-append, chars_from_encodes, append_assoc)
