-- Quotes that are written twice, character by character.
use Rattle.std.proofs.Common.{◌≡◌, ◌≢◌, ℕ, ◌+◌, ◌/◌, ◌%◌, Bool, true, false, cond, List, [], ◌∷◌, ◌++◌, refl, sym, ap, ◌∙◌, append_assoc, arith}
use Rattle.std.specs.Prelude.{◌==◌}
use Rattle.std.proofs.lemmas.Bool.{ne_eqb}
use Rattle.std.proofs.lemmas.Str.{encode_ascii}
use lib.Utf8.{encode}
use lib.Dec.{ltb}
use Rattle.expr_parse.specs.Values.{undoubled}

-- a byte that is no quote stays
other : (after : Bool) (b : ℕ) (bs : List ℕ) → b ≢ 39 → undoubled after (b ∷ bs) ≡ b ∷ undoubled false bs
other after b bs ne = rw (ne_eqb b 39 ne) refl

other_then : (after : Bool) (b : ℕ) (bs rest : List ℕ) → b ≢ 39 → undoubled false bs ≡ rest → undoubled after (b ∷ bs) ≡ b ∷ rest
other_then after b bs rest ne e = other after b bs ne ∙ ap (λ x. b ∷ x) e

-- so does a character
no_quote : (after : Bool) (c : ℕ) (rest : List ℕ) → c ≢ 39 → undoubled after (encode c ++ rest) ≡ encode c ++ undoubled false rest
unfolding encode
no_quote after c rest ne = by_length (ltb c 128) (ltb c 2048) (ltb c 65536)
  where
    last : (n : ℕ) → undoubled false ((128 + n % 64) ∷ rest) ≡ (128 + n % 64) ∷ undoubled false rest
    last n = other false (128 + n % 64) rest (λ e. omega (arith, e))

    two_more : undoubled false ((128 + c / 64 % 64) ∷ (128 + c % 64) ∷ rest) ≡ (128 + c / 64 % 64) ∷ (128 + c % 64) ∷ undoubled false rest
    two_more = other_then false (128 + c / 64 % 64) ((128 + c % 64) ∷ rest) ((128 + c % 64) ∷ undoubled false rest) (λ e. omega (arith, e)) (last c)

    by_length : (x y z : Bool) → undoubled after (cond x (c ∷ []) (cond y ((192 + c / 64) ∷ (128 + c % 64) ∷ []) (cond z ((224 + c / 4096) ∷ (128 + c / 64 % 64) ∷ (128 + c % 64) ∷ []) ((240 + c / 262144) ∷ (128 + c / 4096 % 64) ∷ (128 + c / 64 % 64) ∷ (128 + c % 64) ∷ []))) ++ rest)
        ≡ cond x (c ∷ []) (cond y ((192 + c / 64) ∷ (128 + c % 64) ∷ []) (cond z ((224 + c / 4096) ∷ (128 + c / 64 % 64) ∷ (128 + c % 64) ∷ []) ((240 + c / 262144) ∷ (128 + c / 4096 % 64) ∷ (128 + c / 64 % 64) ∷ (128 + c % 64) ∷ []))) ++ undoubled false rest
    by_length true y z = other after c rest ne
    by_length false true z = other_then after (192 + c / 64) ((128 + c % 64) ∷ rest) ((128 + c % 64) ∷ undoubled false rest) (λ e. omega (arith, e)) (last c)
    by_length false false true =
        other_then after (224 + c / 4096) ((128 + c / 64 % 64) ∷ (128 + c % 64) ∷ rest) ((128 + c / 64 % 64) ∷ (128 + c % 64) ∷ undoubled false rest) (λ e. omega (arith, e)) two_more
    by_length false false false =
        other_then after (240 + c / 262144) ((128 + c / 4096 % 64) ∷ (128 + c / 64 % 64) ∷ (128 + c % 64) ∷ rest) ((128 + c / 4096 % 64) ∷ (128 + c / 64 % 64) ∷ (128 + c % 64) ∷ undoubled false rest)
        (λ e. omega (arith, e))
        (other_then false (128 + c / 4096 % 64) ((128 + c / 64 % 64) ∷ (128 + c % 64) ∷ rest) ((128 + c / 64 % 64) ∷ (128 + c % 64) ∷ undoubled false rest) (λ e. omega (arith, e)) two_more)

-- the second quote of two is left out
pub left_out : (whole words : List ℕ) (c : ℕ) (text rest : List ℕ) → words ++ undoubled true text ≡ whole → c ≡ 39 → text ≡ encode c ++ rest → words ++ undoubled false rest ≡ whole
left_out whole words c text rest so is e =
    let quote : text ≡ 39 ∷ rest = e ∙ ap (λ n. encode n ++ rest) is ∙ ap (λ x. x ++ rest) (encode_ascii 39 (omega arith)) in
    sym (ap (λ x. words ++ undoubled true x) quote) ∙ so

-- any other character stays, and so does a first quote
stays : (after : Bool) (c : ℕ) (rest : List ℕ) → (c ≡ 39 → after ≡ false) → undoubled after (encode c ++ rest) ≡ encode c ++ undoubled (c == 39) rest
stays after c rest first = by_quote (c == 39) refl
  where
    quote : c ≡ 39 → undoubled after (encode c ++ rest) ≡ encode c ++ undoubled true rest
    quote is =
        let one : encode c ≡ 39 ∷ [] = ap encode is ∙ encode_ascii 39 (omega arith) in
        ap (λ x. undoubled after (x ++ rest)) one ∙ ap (λ a. undoubled a (39 ∷ rest)) (first is) ∙ sym (ap (λ x. x ++ undoubled true rest) one)

    by_quote : (q : Bool) → (c == 39) ≡ q → undoubled after (encode c ++ rest) ≡ encode c ++ undoubled q rest
    by_quote true e = quote (grind arith)
    by_quote false e = no_quote after c rest (λ is. let t : (39 == 39) ≡ false = sym (ap (λ n. n == 39) is) ∙ e in cc)

pub stays_so : (whole words : List ℕ) (after : Bool) (c : ℕ) (text rest : List ℕ) → words ++ undoubled after text ≡ whole → (c ≡ 39 → after ≡ false) → text ≡ encode c ++ rest
    → (words ++ encode c) ++ undoubled (c == 39) rest ≡ whole
stays_so whole words after c text rest so first e =
    append_assoc words (encode c) (undoubled (c == 39) rest) ∙ sym (ap (λ x. words ++ x) (ap (undoubled after) e ∙ stays after c rest first)) ∙ so
