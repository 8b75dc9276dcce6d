-- Digits in front of a text, and the number that digits write.
use Rattle.std.proofs.Common.{◌≡◌, Bool, true, false, List, ℕ, ◌∷◌, [], ◌<◌, ◌+◌, ◌*◌, ◌-◌, min, refl, zero, suc, ap, sym, ◌∙◌, ⊎_elim, None, ◌^◌, ◌≤◌, length, rules, arith}
use Rattle.std.specs.Bool.{IsTrue}
use Rattle.std.proofs.Math.Nat.{min-eq_left}
use Rattle.std.proofs.lemmas.Bool.{le-ltb, cases_lt}
use Rattle.std.specs.List.{list_all, fold}
use Rattle.std.proofs.lemmas.List.Sums.{prefix_len-drop_yes, prefix_len-drop_no, prefix_len-drop_all, prefix_len-le-length}
use Rattle.std.proofs.lemmas.Str.Parse.{IsNumeralModel, IsDigitsTest, numerals_by_fold, digits_value_short}
use Rattle.value_types.specs.Names.{is_digit}
use Rattle.value_types.specs.Numbers.{number, are_digits, in_i64, signed}

pub ruleset fronts = (prefix_len-drop_yes, prefix_len-drop_no, prefix_len-drop_all)

all_digits : IsDigitsTest (λ ds. list_all is_digit ds ≡ true)
all_digits = search rules

-- the two words that say what a numeral is, and its number
own : IsNumeralModel (λ ds. list_all is_digit ds ≡ true) number
own = numerals_by_fold (λ ds. list_all is_digit ds ≡ true) all_digits (fold (λ n digit. n * 10 + (digit - 48))) (search rules)

are_all : (ds : List ℕ) → IsTrue (are_digits ds) → list_all is_digit ds ≡ true
are_all [] h = refl
are_all (b ∷ bs) h = h

-- four digits write less than ten thousand
pub number_short : (ds : List ℕ) → length ds ≤ 4 → IsTrue (are_digits ds) → number ds < 10000
number_short ds short digits = digits_value_short own ds 4 (are_all ds digits) short

pub ruleset digits = (number_short, arith)

-- a size past the range has no place in an i64
too_large : (negative : Bool) (size : ℕ) → 2 ^ 63 < size → in_i64 (signed negative size) ≡ None
too_large negative zero h = absurd (omega arith)
too_large true (suc n) h = rw (le-ltb n (2 ^ 63) (omega arith)) refl
too_large false (suc n) h = rw (le-ltb (suc n) (2 ^ 63) (omega arith)) refl

-- past the last number of u64 no count fits an i64
pub saturated : (negative : Bool) (n part : ℕ) → part < 2 ^ 32 →
    in_i64 (signed negative (min n (2 ^ 64 - 1) * 10000 + part)) ≡ in_i64 (signed negative (n * 10000 + part))
saturated negative n part small =
    ⊎_elim (λ h. ap (λ m. in_i64 (signed negative (m * 10000 + part))) (min-eq_left (omega arith)))
    (λ h. let e : min n (2 ^ 64 - 1) ≡ 2 ^ 64 - 1 = omega arith in
    too_large negative (min n (2 ^ 64 - 1) * 10000 + part) (omega arith)
    ∙ sym (too_large negative (n * 10000 + part) (omega arith)))
    (cases_lt n (2 ^ 64 - 1))

pub ruleset last_of_u64 = (saturated, arith)
