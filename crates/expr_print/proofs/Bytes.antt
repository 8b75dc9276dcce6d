-- The classes of the bytes that names, numbers and texts are written with.
use Rattle.std.proofs.Common.{◌≡◌, ◌≢◌, ℕ, ◌≤◌, Bool, true, false, refl, ap, arith, ⊎_elim}
use Rattle.std.specs.Prelude.{◌==◌, ◌||◌, nat_le, if◌then◌else◌}
use Rattle.std.proofs.lemmas.Bool.{ne_eqb, lt-leb, leb-true, and_parts}
use Rattle.ll1_grammar.proofs.Booleans.{or_cases}
use Rattle.value_types.specs.Names.{is_letter, is_digit, is_name_byte}
use Rattle.notebook_grammar.specs.declared.kind.Kind.TheVariants as k
use Rattle.notebook_grammar.specs.declared.scan.Class.{Class}
use Rattle.notebook_grammar.specs.declared.scan.Class.TheVariants as class
use Rattle.notebook_grammar.specs.Forms.{between, class_of}
use Rattle.notebook_grammar.proofs.OneReading.{same_number}
use Rattle.notebook_grammar.proofs.WordForms.{either}

-- the classes after those of letters
abbrev after_quote : ℕ → Class
after_quote b =
    if b == 46 then class.Point
    else if b == 60 then class.Less
    else if b == 62 then class.Greater
    else if b == 33 then class.Bang
    else if b == 124 then class.Bar
    else if b == 61 then class.Equal
    else if b == 43 then class.Mark k.Plus
    else if b == 45 then class.Mark k.Minus
    else if b == 42 then class.Mark k.Star
    else if b == 47 then class.Mark k.Slash
    else if b == 37 then class.Mark k.Percent
    else if b == 44 then class.Mark k.Comma
    else if b == 40 then class.Mark k.Open
    else if b == 41 then class.Mark k.Close
    else if b == 59 then class.Mark k.Semicolon
    else if b == 123 then class.Mark k.OpenBrace
    else if b == 125 then class.Mark k.CloseBrace
    else class.Other

abbrev after_letters : ℕ → Class
after_letters b =
    if b == 95 then class.Underscore
    else if between 48 57 b then class.Digit
    else if b == 39 then class.Quote
    else after_quote b

pub letter_class : (b : ℕ) → is_letter b ≡ true → class_of b ≡ class.Letter
letter_class b e = ap (λ t. if t || between 65 90 b then class.Letter else after_letters b) e

pub digit_range : (b : ℕ) → is_digit b ≡ true → (48 ≤ b) × (b ≤ 57)
digit_range b e = let p = and_parts (nat_le 48 b) (nat_le b 57) e in (leb-true 48 b p.0, leb-true b 57 p.1)

pub digit_class : (b : ℕ) → is_digit b ≡ true → class_of b ≡ class.Digit
digit_class b e =
    let h = digit_range b e in
    let high = h.1 in
    rw (lt-leb 97 b (omega (arith, high)), lt-leb 65 b (omega (arith, high)), ne_eqb b 95 (λ i. omega (arith, high, i)), e) refl

-- a byte of a name is of a class that goes on with a word
pub data NameClass (c : Class) : Type 0 where
  letter : c ≡ class.Letter → NameClass c
  digit : c ≡ class.Digit → NameClass c
  underscore : c ≡ class.Underscore → NameClass c

pub name_class : (b : ℕ) → is_name_byte b ≡ true → NameClass (class_of b)
name_class b e =
    ⊎_elim
    (λ f. ⊎_elim (λ l. letter (letter_class b l)) (λ d. digit (digit_class b d)) (or_cases (is_letter b) (is_digit b) f))
    (λ u. underscore (ap class_of (same_number b 95 u)))
    (or_cases (is_letter b || is_digit b) (b == 95) e)

-- ---- a quote is the one byte of its class

abbrev pub is_quote : Class → Bool
is_quote class.Quote = true
is_quote c = false

pub no_quote : (b : ℕ) → b ≢ 39 → is_quote (class_of b) ≡ false
no_quote b ne =
    either is_quote (between 97 122 b || between 65 90 b) false class.Letter _ refl
    (either is_quote (b == 95) false class.Underscore _ refl
    (either is_quote (between 48 57 b) false class.Digit _ refl
    (rw (ne_eqb b 39 ne)
    (either is_quote (b == 46) false class.Point _ refl (either is_quote (b == 60) false class.Less _ refl (either is_quote (b == 62) false class.Greater _ refl
    (either is_quote (b == 33) false class.Bang _ refl (either is_quote (b == 124) false class.Bar _ refl (either is_quote (b == 61) false class.Equal _ refl
    (either is_quote (b == 43) false (class.Mark k.Plus) _ refl (either is_quote (b == 45) false (class.Mark k.Minus) _ refl (either is_quote (b == 42) false (class.Mark k.Star) _ refl
    (either is_quote (b == 47) false (class.Mark k.Slash) _ refl (either is_quote (b == 37) false (class.Mark k.Percent) _ refl (either is_quote (b == 44) false (class.Mark k.Comma) _ refl
    (either is_quote (b == 40) false (class.Mark k.Open) _ refl (either is_quote (b == 41) false (class.Mark k.Close) _ refl (either is_quote (b == 59) false (class.Mark k.Semicolon) _ refl
    (either is_quote (b == 123) false (class.Mark k.OpenBrace) _ refl (either is_quote (b == 125) false (class.Mark k.CloseBrace) class.Other refl refl))))))))))))))))))))
