-- JSON without space has no line feed.
use Rattle.std.proofs.Common.{◌≡◌, ◌≢◌, ℕ, suc, ◌+◌, ◌/◌, ◌%◌, ◌≤◌, List, [], ◌∷◌, ◌++◌, drop, Bool, true, false, not, cond, ◌&&◌, ◌||◌, Option, Some, None, refl, ap, sym, subst, ◌∙◌, arith}
use Rattle.std.specs.Prelude.{◌==◌, nat_lt, nat_le, option_and_then}
use Rattle.std.specs.Char.{is_ascii_digit, digit_char}
use Rattle.std.specs.List.{prefix_len}
use Rattle.std.proofs.lemmas.Bool.{ne_eqb, eqb-true, and_parts, leb-true, ltb-false}
use Rattle.std.proofs.lemmas.List.Folds.{list_all-append}
use Rattle.json.specs.Token.{Token, begin_object, end_object, begin_array, end_array, key, string, number, boolean, null, bad}
use Rattle.json.specs.Lex.{tokens}
use Rattle.json.specs.Word.{head, after_digits, after_minus, after_sign, after_whole, after_fraction, after_exponent, after_number}
use Rattle.json.specs.Print.{escape_letter, escape_byte, escape, quoted, token_text, separator, ends, begins, print_from, print, IsPrintableOrBad, ArePrintableOrBad, IsNumber}
use Rattle.json.proofs.Numbered.{ArePrintableOrBad-tokens}
use Rattle.edit_wire.specs.Plain.{IsOneLine}
use Rattle.json_fields.proofs.Options.{chained}

-- ---- bytes and texts

other : (b : ℕ) → b ≢ 10 → not (b == 10) ≡ true
other b apart = ap not (ne_eqb b 10 apart)

both : (a b : List ℕ) → IsOneLine a → IsOneLine b → IsOneLine (a ++ b)
both a b first second = list_all-append (λ c. not (c == 10)) a b ∙ rw (first, second) refl

more : (b : ℕ) (bs : List ℕ) → b ≢ 10 → IsOneLine bs → IsOneLine (b ∷ bs)
more b bs apart rest = rw (other b apart, rest) refl

either : (b : Bool) (x y : List ℕ) → (b ≡ true → IsOneLine x) → (b ≡ false → IsOneLine y) → IsOneLine (cond b x y)
either true x y p q = p refl
either false x y p q = q refl

-- ---- texts in quotes

-- what follows from either of two tests
one_of : {P : Type 0} (a b : Bool) → (a || b) ≡ true → (a ≡ true → P) → (b ≡ true → P) → P
one_of true b e p q = p refl
one_of false b e p q = q e

-- a choice between two bytes
choice : (b : Bool) (x y : ℕ) → (b ≡ true → x ≢ 10) → y ≢ 10 → cond b x y ≢ 10
choice true x y p q = p refl
choice false x y p q = q

quote : (x : ℕ) → ((x == 34) || (x == 92)) ≡ true → x ≢ 10
quote x e = one_of (x == 34) (x == 92) e (λ is. let at = eqb-true x 34 is in omega (arith, at)) (λ is. let at = eqb-true x 92 is in omega (arith, at))

letter : (x : ℕ) → escape_letter x ≢ 10
letter x =
    choice ((x == 34) || (x == 92)) x _ (quote x)
    (choice (x == 8) 98 _ (λ _. omega arith) (choice (x == 12) 102 _ (λ _. omega arith) (choice (x == 10) 110 _ (λ _. omega arith) (choice (x == 13) 114 _ (λ _. omega arith) (choice (x == 9) 116 0 (λ _. omega arith) (omega arith))))))

hex : (d : ℕ) → digit_char d ≢ 10
hex d = choice (nat_lt d 10) (48 + d) (87 + d) (λ _. omega arith) (omega arith)

escaped : (x : ℕ) → IsOneLine (escape_byte x)
unfolding escape_byte
escaped x =
    either (nat_lt 0 (escape_letter x)) _ _
    (λ _. more 92 (escape_letter x ∷ []) (omega arith) (more (escape_letter x) [] (letter x) refl))
    (λ _. either (nat_lt x 32) _ (x ∷ [])
    (λ _. more (digit_char (x / 16)) (digit_char (x % 16) ∷ []) (hex (x / 16)) (more (digit_char (x % 16)) [] (hex (x % 16)) refl))
    (λ plain. more x [] (let high = ltb-false x 32 plain in omega arith) refl))

all_escaped : (s : List ℕ) → IsOneLine (escape s)
all_escaped [] = refl
all_escaped (x ∷ xs) = both (escape_byte x) (escape xs) (escaped x) (all_escaped xs)

in_quotes : (s : List ℕ) → IsOneLine (quoted s)
in_quotes s = both (escape s) (34 ∷ []) (all_escaped s) refl

-- ---- numbers

-- a byte at the front that is no line feed
first : (c : ℕ) (t : List ℕ) → c ≢ 10 → (head t == c) ≡ true → IsOneLine (drop 1 t) → IsOneLine t
first c [] apart is rest = refl
first c (x ∷ xs) apart is rest = more x xs (λ e. apart (sym (eqb-true x c is) ∙ e)) rest

digits : (t : List ℕ) → IsOneLine (drop (prefix_len is_ascii_digit t) t) → IsOneLine t
digits [] rest = refl
digits (x ∷ xs) rest = by (is_ascii_digit x) refl (digits xs) rest
  where
    by : (b : Bool) → is_ascii_digit x ≡ b → (IsOneLine (drop (prefix_len is_ascii_digit xs) xs) → IsOneLine xs)
        → IsOneLine (drop (cond b (1 + prefix_len is_ascii_digit xs) 0) (x ∷ xs)) → IsOneLine (x ∷ xs)
    by true is later rest =
        let n = prefix_len is_ascii_digit xs in
        let next : 1 + n ≡ suc n = omega arith in
        let from : 48 ≤ x = leb-true 48 x (and_parts (nat_le 48 x) (nat_le x 57) is).0 in
        more x xs (omega (arith, from)) (later (subst (λ k. IsOneLine (drop k (x ∷ xs))) next rest))
    by false is later rest = rest

-- what is left has no line feed, so what was taken from has none
abbrev Leaves : (List ℕ → Option (List ℕ)) → Type 0
Leaves f = (t r : List ℕ) → f t ≡ Some r → IsOneLine r → IsOneLine t

-- where a test chooses between two ways on
ways : (t r : List ℕ) (b : Bool) (x y : Option (List ℕ)) → cond b x y ≡ Some r → (b ≡ true → x ≡ Some r → IsOneLine t) → (y ≡ Some r → IsOneLine t) → IsOneLine t
ways t r true x y e p q = p refl e
ways t r false x y e p q = q e

-- where it is left as it is
same : (t r : List ℕ) → Some t ≡ Some r → IsOneLine r → IsOneLine t
same t r e rest = let is : t ≡ r = cc in subst IsOneLine (sym is) rest

Leaves-after_digits : Leaves after_digits
Leaves-after_digits t r e rest =
    ways t r (prefix_len is_ascii_digit t == 0) None _ e (λ _ e. absurd (cc)) (λ e. digits t (same (drop (prefix_len is_ascii_digit t) t) r e rest))

minus : (t : List ℕ) → IsOneLine (after_minus t) → IsOneLine t
minus t rest = by (head t == 45) refl rest
  where
    by : (b : Bool) → (head t == 45) ≡ b → IsOneLine (cond b (drop 1 t) t) → IsOneLine t
    by true is rest = first 45 t (omega arith) is rest
    by false is rest = rest

sign : (t : List ℕ) → IsOneLine (after_sign t) → IsOneLine t
sign t rest = by ((head t == 45) || (head t == 43)) refl rest
  where
    by : (b : Bool) → ((head t == 45) || (head t == 43)) ≡ b → IsOneLine (cond b (drop 1 t) t) → IsOneLine t
    by true is rest = one_of (head t == 45) (head t == 43) is (λ at. first 45 t (omega arith) at rest) (λ at. first 43 t (omega arith) at rest)
    by false is rest = rest

Leaves-after_whole : Leaves after_whole
Leaves-after_whole t r e rest =
    ways t r (head t == 48) (Some (drop 1 t)) _ e (λ is e. first 48 t (omega arith) is (same (drop 1 t) r e rest)) (λ e. Leaves-after_digits t r e rest)

Leaves-after_fraction : Leaves after_fraction
Leaves-after_fraction t r e rest =
    ways t r (head t == 46) _ (Some t) e (λ is e. first 46 t (omega arith) is (Leaves-after_digits (drop 1 t) r e rest)) (λ e. same t r e rest)

Leaves-after_exponent : Leaves after_exponent
Leaves-after_exponent t r e rest =
    let left = λ (e : after_digits (after_sign (drop 1 t)) ≡ Some r). sign (drop 1 t) (Leaves-after_digits (after_sign (drop 1 t)) r e rest) in
    ways t r ((head t == 101) || (head t == 69)) _ (Some t) e
    (λ is e. one_of (head t == 101) (head t == 69) is (λ at. first 101 t (omega arith) at (left e)) (λ at. first 69 t (omega arith) at (left e)))
    (λ e. same t r e rest)

a_number : (s : List ℕ) → IsNumber s → IsOneLine s
unfolding after_number
a_number s is =
    let exponent = chained after_exponent (option_and_then after_fraction (after_whole (after_minus s))) [] is in
    let fraction = chained after_fraction (after_whole (after_minus s)) exponent.0 exponent.1 in
    minus s (Leaves-after_whole (after_minus s) fraction.0 fraction.1
    (Leaves-after_fraction fraction.0 exponent.0 fraction.2 (Leaves-after_exponent exponent.0 [] exponent.2 refl)))

-- ---- tokens

a_token : (t : Token) → IsPrintableOrBad t → IsOneLine (token_text t)
a_token begin_object h = refl
a_token end_object h = refl
a_token begin_array h = refl
a_token end_array h = refl
a_token (key s) h = both (quoted s) (58 ∷ []) (in_quotes s) refl
a_token (string s) h = in_quotes s
a_token (number s) h = a_number s h
a_token (boolean true) h = refl
a_token (boolean false) h = refl
a_token null h = refl
a_token bad h = refl

a_separator : (after : Bool) (t : Token) → IsOneLine (separator after t)
a_separator after t = either (after && begins t) (44 ∷ []) [] (λ _. refl) (λ _. refl)

printed : (after : Bool) (ts : List Token) → ArePrintableOrBad ts → IsOneLine (print_from after ts)
unfolding print_from
printed after [] h = refl
printed after (t ∷ ts) h =
    both (separator after t) (token_text t ++ print_from (ends t) ts) (a_separator after t)
    (both (token_text t) (print_from (ends t) ts) (a_token t h.0) (printed (ends t) ts h.1))

-- a text that is its own tokens, printed without space
pub compact_one_line : (text : List ℕ) → text ≡ print (tokens text) → IsOneLine text
compact_one_line text is = subst IsOneLine (sym is) (printed false (tokens text) (ArePrintableOrBad-tokens text))
