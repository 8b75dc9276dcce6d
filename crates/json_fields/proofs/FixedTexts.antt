-- The text of a Fixed is read back as its count.
use Rattle.std.proofs.Common.{◌≡◌, ℕ, suc, ◌+◌, ◌*◌, ◌-◌, ◌/◌, ◌%◌, ◌^◌, ◌<◌, ◌≤◌, ℤ, pos, negsuc, List, [], ◌∷◌, ◌++◌, length, Bool, true, false, refl, ap, ◌∙◌, arith, rules, Option, Some, None, decimal, FitsSigned}
use Rattle.std.specs.Prelude.{if◌then◌else◌, ◌||◌, ◌==◌, nat_le}
use Rattle.std.specs.Int.{w64}
use Rattle.std.specs.List.{list_all, prefix_len, fold}
use Rattle.std.proofs.Math.Seq.{take-append_seam, drop-append_seam}
use Rattle.std.proofs.lemmas.Bool.{le-leb, lt-ltb, leb-true, ne_eqb, and_parts}
use Rattle.std.proofs.lemmas.Fmt.{digits_decimal, digits_value-decimal, decimal_nonempty}
use Rattle.std.proofs.lemmas.Str.Parse.{IsNumeralModel, IsDigitsTest, numerals_by_fold}
use Rattle.value_types.specs.Names.{is_digit}
use Rattle.value_types.specs.Numbers.{unsigned, is_negative, are_digits, number, signed, in_i64, whole, after_whole, fraction, counted, fixed_of}
use Rattle.value_types.specs.Text.{four_digits, magnitude_text, fixed_text}

-- ---- digits

abbrev pub AreDigits : List ℕ → Type 0
AreDigits ds = list_all is_digit ds ≡ true

all_digits : IsDigitsTest AreDigits
all_digits = search rules

own : IsNumeralModel AreDigits number
own = numerals_by_fold AreDigits all_digits (fold (λ n digit. n * 10 + (digit - 48))) (search rules)

-- the digit of a number below ten
is_digit-of : (d : ℕ) → d < 10 → is_digit (48 + d) ≡ true
is_digit-of d h = rw (le-leb 48 (48 + d) (omega arith), le-leb (48 + d) 57 (omega arith)) refl

-- what a digit is
at_least : (b : ℕ) → is_digit b ≡ true → 48 ≤ b
at_least b h = leb-true 48 b (and_parts (nat_le 48 b) (nat_le b 57) h).0

no_minus : (b : ℕ) → is_digit b ≡ true → (b == 45) ≡ false
no_minus b h = let from = at_least b h in ne_eqb b 45 (omega (arith, from))

no_sign : (b : ℕ) → is_digit b ≡ true → ((b == 43) || (b == 45)) ≡ false
no_sign b h =
    let from = at_least b h in
    let plus : (b == 43) ≡ false = ne_eqb b 43 (omega (arith, from)) in
    rw (plus, no_minus b h) refl

-- ---- the whole part, and what follows it

whole_len : (ds rest : List ℕ) → AreDigits ds → prefix_len is_digit (ds ++ 46 ∷ rest) ≡ length ds
whole_len [] rest h = refl
whole_len (d ∷ ds) rest h =
    let parts = and_parts (is_digit d) (list_all is_digit ds) h in
    rw (parts.0, whole_len ds rest parts.1) (omega arith)

whole-of : (ds rest : List ℕ) → AreDigits ds → whole (ds ++ 46 ∷ rest) ≡ ds
whole-of ds rest h = rw (whole_len ds rest h) (take-append_seam ds (46 ∷ rest))

after_whole-of : (ds rest : List ℕ) → AreDigits ds → after_whole (ds ++ 46 ∷ rest) ≡ 46 ∷ rest
after_whole-of ds rest h = rw (whole_len ds rest h) (drop-append_seam ds (46 ∷ rest))

-- ---- four digits

number-four : (n : ℕ) → n < 10000 → number (four_digits n) ≡ n
number-four n h = omega arith

fraction-four : (n : ℕ) → n < 10000 → fraction (46 ∷ four_digits n) ≡ Some n
fraction-four n h =
    let value : number (four_digits n) * 1 ≡ n = omega arith in
    rw (is_digit-of (n / 1000) (omega arith), is_digit-of (n / 100 % 10) (omega arith), is_digit-of (n / 10 % 10) (omega arith), is_digit-of (n % 10) (omega arith)) (ap Some value)

-- ---- a text with its sign

-- digits that are there
nonempty : (ds : List ℕ) → 0 < length ds → AreDigits ds → are_digits ds ≡ true
nonempty [] some all = absurd (omega arith)
nonempty (d ∷ ds) some all = all

-- digits in front are no sign
unsigned-digits : (ds rest : List ℕ) → are_digits ds ≡ true → (unsigned (ds ++ rest) ≡ ds ++ rest) × (is_negative (ds ++ rest) ≡ false)
unsigned-digits [] rest some = absurd (cc)
unsigned-digits (d ∷ ds) rest some =
    let first : is_digit d ≡ true = (and_parts (is_digit d) (list_all is_digit ds) some).0 in
    (rw (no_sign d first) refl, no_minus d first)

-- a whole part of digits, then a point and four digits
read_parts : (negative : Bool) (w ds : List ℕ) (f : Option ℕ) (part : ℕ) → w ≡ ds → f ≡ Some part → are_digits ds ≡ true
    → (if are_digits w then counted negative (number w) f else None) ≡ in_i64 (signed negative (number ds * 10000 + part))
read_parts negative w ds f part is_whole is_part some = rw (is_whole, is_part, some) refl

read_size : (negative : Bool) (n : ℕ) → n < 2 ^ 64
    → (if are_digits (whole (magnitude_text n)) then counted negative (number (whole (magnitude_text n))) (fraction (after_whole (magnitude_text n))) else None)
    ≡ in_i64 (signed negative n)
read_size negative n small =
    let below : n / 10000 < 2 ^ 64 = omega arith in
    let part : n % 10000 < 10000 = omega arith in
    let all = digits_decimal own (n / 10000) below in
    let some = nonempty (decimal (n / 10000)) (decimal_nonempty (n / 10000) below) all in
    let after = after_whole-of (decimal (n / 10000)) (four_digits (n % 10000)) all in
    let value : number (decimal (n / 10000)) * 10000 + n % 10000 ≡ n = omega (arith, digits_value-decimal own (n / 10000) below) in
    read_parts negative _ (decimal (n / 10000)) _ (n % 10000) (whole-of (decimal (n / 10000)) (four_digits (n % 10000)) all) (ap fraction after ∙ fraction-four (n % 10000) part) some
    ∙ ap (λ size. in_i64 (signed negative size)) value

magnitude_first : (n : ℕ) → n < 2 ^ 64 → (unsigned (magnitude_text n) ≡ magnitude_text n) × (is_negative (magnitude_text n) ≡ false)
magnitude_first n small =
    let below : n / 10000 < 2 ^ 64 = omega arith in
    unsigned-digits (decimal (n / 10000)) (46 ∷ four_digits (n % 10000)) (nonempty (decimal (n / 10000)) (decimal_nonempty (n / 10000) below) (digits_decimal own (n / 10000) below))

-- the text of a count is read back as the count
pub fixed_of-fixed_text : (n : ℤ) → FitsSigned w64 n → fixed_of (fixed_text n) ≡ Some n
unfolding fixed_of
fixed_of-fixed_text (pos n) fits =
    let small : n < 2 ^ 63 = fits.sfits in
    let first = magnitude_first n (omega arith) in
    rw (first.0, first.1) (read_size false n (omega arith) ∙ rw (lt-ltb n (2 ^ 63) small) refl)
fixed_of-fixed_text (negsuc n) fits =
    let small : n < 2 ^ 63 = fits.sfits in
    read_size true (suc n) (omega arith) ∙ rw (lt-ltb n (2 ^ 63) small) refl
