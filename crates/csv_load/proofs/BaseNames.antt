-- What a field of the header asks for is a name, with room for a number after it.
use Rattle.std.proofs.Common.{◌≡◌, ◌≤◌, ◌<◌, ◌+◌, ◌/◌, ◌%◌, ◌^◌, ℕ, zero, suc, List, [], ◌∷◌, ◌++◌, length, take, Bool, true, false, refl, sym, ◌∙◌, ap, arith, length-append, length-take, ⊎_elim}
use Rattle.std.specs.Prelude.{◌&&◌, ◌||◌, IsTrue, decimal, nat_le}
use Rattle.std.specs.List.{list_all}
use Rattle.std.specs.Char.{to_ascii_lowercase}
use Rattle.std.proofs.lemmas.Bool.Decides.{nat_tests}
use Rattle.std.proofs.lemmas.Bool.{cases_lt}
use Rattle.std.proofs.lemmas.List.Folds.{list_all-append}
use Rattle.std.proofs.lemmas.Fmt.{decimal_digit, decimal_step}
use Rattle.value_types.specs.Names.{is_letter, is_digit, is_name_byte, is_name}
use Rattle.csv_load.specs.Ends.{onto, without_end}
use Rattle.csv_load.specs.Names.{is_low_line, is_kept, begins_apart, linked, cleaned, cut, begun, base_name, with_number}
use Rattle.csv_load.specs.Calls.{IsBase}

-- the bytes of a name, and a letter or a digit in front
abbrev pub fine : List ℕ → Bool
fine [] = true
fine (b ∷ bs) = (is_letter b || is_digit b) && list_all is_name_byte bs

kept_byte : (b : ℕ) → is_kept b ≡ true → (is_letter (to_ascii_lowercase b) || is_digit (to_ascii_lowercase b)) ≡ true
kept_byte b e = grind (arith, nat_tests)

word_byte : (b : ℕ) → (is_letter b || is_digit b) ≡ true → is_name_byte b ≡ true
word_byte b e = rw e refl

all_of_fine : (bs : List ℕ) → fine bs ≡ true → list_all is_name_byte bs ≡ true
all_of_fine [] e = refl
all_of_fine (b ∷ bs) e = by (is_letter b || is_digit b) refl
  where
    by : (t : Bool) → (is_letter b || is_digit b) ≡ t → list_all is_name_byte (b ∷ bs) ≡ true
    by true is = rw is (rw is at e)
    by false is = cc (rw is at e)

linked_all : (apart : Bool) (bs : List ℕ) → list_all is_name_byte bs ≡ true → list_all is_name_byte (linked apart bs) ≡ true
linked_all true [] e = refl
linked_all true (b ∷ bs) e = e
linked_all false bs e = e

cleaned_fine : (field : List ℕ) → fine (cleaned field) ≡ true
cleaned_fine [] = refl
cleaned_fine (b ∷ bs) = by (is_kept b) refl (cleaned_fine bs)
  where
    by : (t : Bool) → is_kept b ≡ t → fine (cleaned bs) ≡ true → fine (cleaned (b ∷ bs)) ≡ true
    by true is rest = rw (is, kept_byte b is) (linked_all (begins_apart bs) (cleaned bs) (all_of_fine (cleaned bs) rest))
    by false is rest = rw is rest

-- a part of it from the front on
take_all_bytes : (n : ℕ) (bs : List ℕ) → list_all is_name_byte bs ≡ true → list_all is_name_byte (take n bs) ≡ true
take_all_bytes zero bs e = refl
take_all_bytes (suc n) [] e = refl
take_all_bytes (suc n) (b ∷ bs) e = by (is_name_byte b) refl (take_all_bytes n bs)
  where
    by : (t : Bool) → is_name_byte b ≡ t → (list_all is_name_byte bs ≡ true → list_all is_name_byte (take n bs) ≡ true) → list_all is_name_byte (b ∷ take n bs) ≡ true
    by true is rest = rw is (rest (rw is at e))
    by false is rest = cc (rw is at e)

take_fine : (n : ℕ) (bs : List ℕ) → fine bs ≡ true → fine (take n bs) ≡ true
take_fine zero bs e = refl
take_fine (suc n) [] e = refl
take_fine (suc n) (b ∷ bs) e = by (is_letter b || is_digit b) refl
  where
    by : (t : Bool) → (is_letter b || is_digit b) ≡ t → fine (b ∷ take n bs) ≡ true
    by true is = rw is (take_all_bytes n bs (rw is at e))
    by false is = cc (rw is at e)

end_all_bytes : (bs : List ℕ) → list_all is_name_byte bs ≡ true → list_all is_name_byte (without_end is_low_line bs) ≡ true
end_all_bytes [] e = refl
end_all_bytes (b ∷ bs) e = by (is_name_byte b) refl (end_all_bytes bs)
  where
    onto_all : (go : Bool) (rest : List ℕ) → is_name_byte b ≡ true → list_all is_name_byte rest ≡ true → list_all is_name_byte (onto go b rest) ≡ true
    onto_all true [] is e = refl
    onto_all true (c ∷ cs) is e = rw is e
    onto_all false rest is e = rw is e

    by : (t : Bool) → is_name_byte b ≡ t → (list_all is_name_byte bs ≡ true → list_all is_name_byte (without_end is_low_line bs) ≡ true) → list_all is_name_byte (without_end is_low_line (b ∷ bs)) ≡ true
    by true is rest = onto_all (is_low_line b) (without_end is_low_line bs) is (rest (rw is at e))
    by false is rest = cc (rw is at e)

end_fine : (bs : List ℕ) → fine bs ≡ true → fine (without_end is_low_line bs) ≡ true
end_fine [] e = refl
end_fine (b ∷ bs) e = by (is_letter b || is_digit b) refl
  where
    onto_fine : (go : Bool) (rest : List ℕ) → (is_letter b || is_digit b) ≡ true → list_all is_name_byte rest ≡ true → fine (onto go b rest) ≡ true
    onto_fine true [] is e = refl
    onto_fine true (c ∷ cs) is e = rw is e
    onto_fine false rest is e = rw is e

    by : (t : Bool) → (is_letter b || is_digit b) ≡ t → fine (without_end is_low_line (b ∷ bs)) ≡ true
    by true is = onto_fine (is_low_line b) (without_end is_low_line bs) is (end_all_bytes bs (rw is at e))
    by false is = cc (rw is at e)

end_short : (bs : List ℕ) → length (without_end is_low_line bs) ≤ length bs
end_short [] = omega arith
end_short (b ∷ bs) = onto_short (is_low_line b) (without_end is_low_line bs) (end_short bs)
  where
    onto_short : (go : Bool) (rest : List ℕ) → length rest ≤ length bs → length (onto go b rest) ≤ length (b ∷ bs)
    onto_short true [] h = omega arith
    onto_short true (c ∷ cs) h = omega (arith, h)
    onto_short false rest h = omega (arith, h)

begun_is : (text : List ℕ) → fine text ≡ true → length text ≤ 24 → IsBase (begun text)
begun_is [] e short = record { valid = refl; short = omega arith }
begun_is (b ∷ bs) e short = by (is_letter b) (is_digit b) refl refl
  where
    by : (letter digit : Bool) → is_letter b ≡ letter → is_digit b ≡ digit → IsBase (begun (b ∷ bs))
    by letter true is_l is_d =
        let rest : list_all is_name_byte (b ∷ bs) ≡ true = all_of_fine (b ∷ bs) e in
        let few : nat_le (length (95 ∷ b ∷ bs)) 31 ≡ true = grind (arith, nat_tests) in
        rw is_d (record { valid = rw (rest, few) refl; short = omega arith })
    by true false is_l is_d =
        let rest : list_all is_name_byte bs ≡ true = rw is_l at e in
        let few : nat_le (length bs) 31 ≡ true = grind (arith, nat_tests) in
        rw is_d (record { valid = rw (is_l, rest, few) refl; short = omega arith })
    by false false is_l is_d = cc (rw (is_l, is_d) at e)

pub base_is : (field : List ℕ) → IsBase (base_name field)
base_is field =
    let front = take 24 (cleaned field) in
    let few = length-take 24 (cleaned field) in
    let short = end_short front in
    begun_is (cut (cleaned field)) (end_fine front (take_fine 24 (cleaned field) (cleaned_fine field))) (omega arith)

-- a number below 100 has one or two digits
pub record IsShortNumber (text : List ℕ) : Type 0 where
  pub bytes : list_all is_name_byte text ≡ true
  pub short : length text ≤ 2

digit_byte : (d : ℕ) → d < 10 → is_name_byte (48 + d) ≡ true
digit_byte d h = grind (arith, nat_tests)

short_number : (k : ℕ) → k < 100 → IsShortNumber (decimal k)
short_number k h = ⊎_elim one two (cases_lt k 10)
  where
    one : k < 10 → IsShortNumber (decimal k)
    one lt = rw (decimal_digit k lt) (record { bytes = rw (digit_byte k lt) refl; short = omega arith })

    two : 10 ≤ k → IsShortNumber (decimal k)
    two le =
        let high : k / 10 < 10 = omega arith in
        let low : k % 10 < 10 = omega arith in
        rw (decimal_step k le (omega arith), decimal_digit (k / 10) high)
        (record { bytes = rw (digit_byte (k / 10) high, digit_byte (k % 10) low) refl; short = omega arith })

-- a name with such a number after it is a name
pub numbered_is : (name : List ℕ) (k : ℕ) → IsBase name → k < 100 → is_name (with_number name k) ≡ true
numbered_is [] k base h = cc base.valid
numbered_is (b ∷ bs) k base h = by (is_letter b) (list_all is_name_byte bs) refl refl
  where
    by : (letter all : Bool) → is_letter b ≡ letter → list_all is_name_byte bs ≡ all → is_name (with_number (b ∷ bs) k) ≡ true
    by true true is_l is_a =
        let number = short_number k h in
        let short = base.short in
        let size = length-append bs (95 ∷ decimal k) in
        let small = number.short in
        let few : nat_le (length (bs ++ 95 ∷ decimal k)) 31 ≡ true = grind (arith, nat_tests) in
        rw (is_l, list_all-append is_name_byte bs (95 ∷ decimal k), is_a, number.bytes, few) refl
    by true false is_l is_a = cc (rw (is_l, is_a) at base.valid)
    by false all is_l is_a = cc (rw is_l at base.valid)
