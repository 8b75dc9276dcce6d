-- A number is a token, and gives the number.
use Rattle.std.proofs.Common.{◌≡◌, ℕ, ◌+◌, ◌-◌, ◌*◌, ◌/◌, ◌%◌, ◌^◌, ◌<◌, ◌≤◌, true, false, List, [], ◌∷◌, ◌++◌, Some, None, length, take, drop, refl, sym, ap, ◌∙◌, arith, rules}
use Rattle.std.specs.Prelude.{◌==◌, if◌then◌else◌, pos, nat_lt, nat_le, decimal, cond}
use Rattle.std.specs.List.{list_all, fold, prefix_len}
use Rattle.std.specs.Option.{is_some}
use Rattle.std.proofs.Math.Seq.{take-append_seam, drop-append_seam}
use Rattle.std.proofs.lemmas.Bool.{ne_eqb, ltb-true, le-leb, and_from, and_parts}
use Rattle.std.proofs.lemmas.Fmt.{decimal_nonempty, digits_decimal, digits_value-decimal}
use Rattle.std.proofs.lemmas.Str.Parse.{IsNumeralModel, IsDigitsTest, numerals_by_fold}
use Rattle.value_types.specs.Names.{is_digit}
use Rattle.value_types.specs.Numbers.{number, are_digits, unsigned, is_negative, in_i64, int_of, fixed_of, whole, after_whole, fraction}
use Rattle.value_types.specs.Text.{digit, four_digits, magnitude_text}
use Rattle.notebook_grammar.specs.declared.kind.Kind.{Kind}
use Rattle.notebook_grammar.specs.declared.kind.Kind.TheVariants as k
use Rattle.notebook_grammar.specs.declared.scan.Form.{Form}
use Rattle.notebook_grammar.specs.declared.scan.Form.TheVariants as form
use Rattle.notebook_grammar.specs.declared.scan.State.TheVariants as state
use Rattle.notebook_grammar.specs.Forms.{step}
use Rattle.notebook_grammar.specs.Longest.{ends_in, token_of}
use Rattle.notebook_grammar.specs.Lexemes.{is_small, kind_of}
use Rattle.expr_parse.specs.Values.{read, whole_of, decimal_of}
use Rattle.expr_print.proofs.Reading.{kind_in, kind_by}
use Rattle.expr_print.proofs.Bytes.{digit_class, digit_range}

-- ---- the digits of a number

all_digits : IsDigitsTest (λ ds. list_all is_digit ds ≡ true)
all_digits = search rules

own : IsNumeralModel (λ ds. list_all is_digit ds ≡ true) number
own = numerals_by_fold (λ ds. list_all is_digit ds ≡ true) all_digits (fold (λ n digit. n * 10 + (digit - 48))) (search rules)

-- the digits of a number: one or more, which write it
record Digits (n : ℕ) (ds : List ℕ) : Type 0 where
  are : are_digits ds ≡ true
  all : list_all is_digit ds ≡ true
  write : number ds ≡ n

digits_of : (n : ℕ) → n < 2 ^ 64 → Digits n (decimal n)
digits_of n h = go (decimal n) (decimal_nonempty n h) (digits_decimal own n h) (digits_value-decimal own n h)
  where
    go : (ds : List ℕ) → 0 < length ds → list_all is_digit ds ≡ true → number ds ≡ n → Digits n ds
    go [] some all write = absurd (omega (arith, some))
    go (d ∷ ds) some all write = record { are = all; all = all; write = write }

-- no digit is a sign
no_sign : (ds : List ℕ) → are_digits ds ≡ true → (rest : List ℕ) → (unsigned (ds ++ rest) ≡ ds ++ rest) × (is_negative (ds ++ rest) ≡ false)
no_sign [] e rest = cc
no_sign (d ∷ ds) e rest =
    let low = (digit_range d (and_parts (is_digit d) (list_all is_digit ds) e).0).0 in
    let plus : (d == 43) ≡ false = ne_eqb d 43 (λ i. omega (arith, low, i)) in
    let minus : (d == 45) ≡ false = ne_eqb d 45 (λ i. omega (arith, low, i)) in
    (rw (plus, minus) refl, minus)

fits : (n : ℕ) → nat_lt n (2 ^ 63) ≡ true → in_i64 (pos n) ≡ Some (pos n)
fits n h = ap (λ t. if t then Some (pos n) else None) h

small : (n : ℕ) → nat_lt n (2 ^ 63) ≡ true → n < 2 ^ 63
small n h = ltb-true n (2 ^ 63) h

-- ---- the states along digits

begun : (d : ℕ) (rest : List ℕ) → is_digit d ≡ true → token_of (d ∷ rest) ≡ ends_in (Some state.Whole) rest
begun d rest e = ap (λ c. ends_in (step state.Start c) rest) (digit_class d e)

along : (ds rest : List ℕ) → list_all is_digit ds ≡ true → ends_in (Some state.Whole) (ds ++ rest) ≡ ends_in (Some state.Whole) rest
along [] rest e = refl
along (d ∷ ds) rest e =
    let p = and_parts (is_digit d) (list_all is_digit ds) e in
    ap (λ c. ends_in (step state.Whole c) (ds ++ rest)) (digit_class d p.0) ∙ along ds rest p.1

after_digits : (ds rest : List ℕ) → are_digits ds ≡ true → token_of (ds ++ rest) ≡ ends_in (Some state.Whole) rest
after_digits [] rest e = cc
after_digits (d ∷ ds) rest e =
    let p = and_parts (is_digit d) (list_all is_digit ds) e in
    begun d (ds ++ rest) p.0 ∙ along ds rest p.1

-- ---- numbers without a point

no_more : (l : List ℕ) → l ++ [] ≡ l
no_more [] = refl
no_more (x ∷ l) = ap (λ y. x ∷ y) (no_more l)

int_is : (n : ℕ) (ds : List ℕ) → Digits n ds → nat_lt n (2 ^ 63) ≡ true → int_of ds ≡ Some (pos n)
unfolding int_of
int_is n ds is h =
    let s = no_sign ds is.are [] in
    let plain : unsigned ds ≡ ds = sym (ap unsigned (no_more ds)) ∙ s.0 ∙ no_more ds in
    let positive : is_negative ds ≡ false = sym (ap is_negative (no_more ds)) ∙ s.1 in
    rw (plain, is.are, positive, is.write) (fits n h)

kind_is : (t : List ℕ) (f : Form) (kind : Kind) → token_of t ≡ Some f → is_small f t ≡ true → kind_of f t ≡ kind → kind_in t ≡ Some kind
kind_is t f kind e s h = ap (λ o. kind_by o t) e ∙ ap (λ b. if b then Some (kind_of f t) else None) s ∙ ap (λ x. Some x) h

wide : (n : ℕ) → nat_lt n (2 ^ 63) ≡ true → n < 2 ^ 64
wide n h = let s = small n h in omega (arith, s)

pub whole_kind : (n : ℕ) → nat_lt n (2 ^ 63) ≡ true → kind_in (decimal n) ≡ Some k.Whole
whole_kind n h =
    let is = digits_of n (wide n h) in
    let form_is : token_of (decimal n) ≡ Some form.Whole = sym (ap token_of (no_more (decimal n))) ∙ after_digits (decimal n) [] is.are in
    kind_is (decimal n) form.Whole k.Whole form_is (ap is_some (int_is n (decimal n) is h)) refl

pub whole_back : (n : ℕ) → nat_lt n (2 ^ 63) ≡ true → whole_of (decimal n) ≡ pos n
whole_back n h = ap read (int_is n (decimal n) (digits_of n (wide n h)) h)

-- ---- numbers with a point

one_digit : (d : ℕ) → d ≤ 9 → is_digit (48 + d) ≡ true
one_digit d h = and_from (nat_le 48 (48 + d)) (nat_le (48 + d) 57) (le-leb 48 (48 + d) (omega arith)) (le-leb (48 + d) 57 (omega (arith, h)))

-- four digits are digits, and write their number
record Four (m : ℕ) : Type 0 where
  first : is_digit (digit (m / 1000)) ≡ true
  second : is_digit (digit (m / 100 % 10)) ≡ true
  third : is_digit (digit (m / 10 % 10)) ≡ true
  fourth : is_digit (digit (m % 10)) ≡ true
  write : number (four_digits m) ≡ m

four_of : (m : ℕ) → m < 10000 → Four m
four_of m h = record {
  first = one_digit (m / 1000) (omega (arith, h));
  second = one_digit (m / 100 % 10) (omega arith);
  third = one_digit (m / 10 % 10) (omega arith);
  fourth = one_digit (m % 10) (omega arith);
  write = omega (arith, h);
}

prefix_is : (ds rest : List ℕ) → list_all is_digit ds ≡ true → prefix_len is_digit (ds ++ 46 ∷ rest) ≡ length ds
prefix_is [] rest e = refl
prefix_is (d ∷ ds) rest e =
    let p = and_parts (is_digit d) (list_all is_digit ds) e in
    ap (λ t. cond t (1 + prefix_len is_digit (ds ++ 46 ∷ rest)) 0) p.0 ∙ ap (λ n. 1 + n) (prefix_is ds rest p.1) ∙ (let n : 1 + length ds ≡ length (d ∷ ds) = omega arith in n)

module _ (n : ℕ) (h : nat_lt n (2 ^ 63) ≡ true) where
  front : Digits (n / 10000) (decimal (n / 10000))
  front = let s = small n h in digits_of (n / 10000) (omega (arith, s))

  back : Four (n % 10000)
  back = four_of (n % 10000) (omega arith)

  all_four : are_digits (four_digits (n % 10000)) ≡ true
  all_four = rw (back.first, back.second, back.third, back.fourth) refl

  cut_whole : whole (magnitude_text n) ≡ decimal (n / 10000)
  cut_whole = ap (λ i. take i (magnitude_text n)) (prefix_is (decimal (n / 10000)) (four_digits (n % 10000)) front.all) ∙ take-append_seam (decimal (n / 10000)) (46 ∷ four_digits (n % 10000))

  cut_rest : after_whole (magnitude_text n) ≡ 46 ∷ four_digits (n % 10000)
  cut_rest = ap (λ i. drop i (magnitude_text n)) (prefix_is (decimal (n / 10000)) (four_digits (n % 10000)) front.all) ∙ drop-append_seam (decimal (n / 10000)) (46 ∷ four_digits (n % 10000))

  part : fraction (46 ∷ four_digits (n % 10000)) ≡ Some (n % 10000)
  part = rw all_four (ap (λ m. Some m) (let w = back.write in omega (arith, w)))

  sum : n / 10000 * 10000 + n % 10000 ≡ n
  sum = omega arith

  fixed_is : fixed_of (magnitude_text n) ≡ Some (pos n)
  unfolding fixed_of
  fixed_is =
      let s = no_sign (decimal (n / 10000)) front.are (46 ∷ four_digits (n % 10000)) in
      rw (s.0, s.1, cut_whole, cut_rest, front.are, front.write, part, sum) (fits n h)

  pub decimal_kind : kind_in (magnitude_text n) ≡ Some k.Decimal
  decimal_kind =
      let states : ends_in (Some state.Whole) (46 ∷ four_digits (n % 10000)) ≡ Some form.Decimal =
      rw (digit_class _ back.first, digit_class _ back.second, digit_class _ back.third, digit_class _ back.fourth) refl in
      kind_is (magnitude_text n) form.Decimal k.Decimal (after_digits (decimal (n / 10000)) (46 ∷ four_digits (n % 10000)) front.are ∙ states) (ap is_some fixed_is) refl

  pub decimal_back : decimal_of (magnitude_text n) ≡ pos n
  decimal_back = ap read fixed_is
