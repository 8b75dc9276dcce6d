-- A name is a token, and gives the name.
use Rattle.std.proofs.Common.{◌≡◌, ℕ, ◌+◌, ◌<◌, ◌≤◌, Bool, true, false, List, [], ◌∷◌, Some, None, length, refl, sym, ap, ◌∙◌, subst, arith, inl, inr, ⊎_elim, ◌⊎◌}
use Rattle.std.specs.Prelude.{◌==◌, ◌&&◌, ◌||◌, not, if◌then◌else◌, cond, nat_le, nat_lt}
use Rattle.std.specs.Char.{to_ascii_lowercase}
use Rattle.std.specs.List.{list_all}
use Rattle.std.specs.Str.{bytes_eq}
use Rattle.std.proofs.lemmas.Bool.{lt-ltb, le-ltb, leb-true, le-leb, and_parts}
use Rattle.std.proofs.lemmas.Slice.Eq.{bytes_eq-Decides}
use Rattle.ll1_grammar.proofs.Booleans.{or_cases}
use Rattle.value_types.specs.Names.{is_letter, is_digit, is_name_byte, is_name}
use Rattle.notebook_grammar.specs.declared.kind.Kind.{Kind}
use Rattle.notebook_grammar.specs.declared.kind.Kind.TheVariants as k
use Rattle.notebook_grammar.specs.declared.scan.Form.TheVariants as form
use Rattle.notebook_grammar.specs.declared.scan.Class.{Class}
use Rattle.notebook_grammar.specs.declared.scan.State.TheVariants as state
use Rattle.notebook_grammar.specs.Forms.{class_of, step}
use Rattle.notebook_grammar.specs.Longest.{ends_in, token_of}
use Rattle.notebook_grammar.specs.Words.{Reservations, two, three, four, five, six, seven, eight, of_length, same_word, kind_among, kind_of_word}
use Rattle.notebook_grammar.proofs.OneReading.{same_number}
use Rattle.expr_parse.specs.Values.{lowered, type_of, type_name}
use Rattle.expr_print.proofs.Reading.{kind_in, kind_by}
use Rattle.expr_print.proofs.Bytes.{NameClass, letter, digit, underscore, letter_class, digit_range, name_class}

-- ---- it is a word

goes_on : (c : Class) → NameClass c → step state.Word c ≡ Some state.Word
goes_on c (letter e) = ap (step state.Word) e
goes_on c (digit e) = ap (step state.Word) e
goes_on c (underscore e) = ap (step state.Word) e

word_on : (bs : List ℕ) → list_all is_name_byte bs ≡ true → ends_in (Some state.Word) bs ≡ Some form.Word
word_on [] e = refl
word_on (b ∷ bs) e =
    let p = and_parts (is_name_byte b) (list_all is_name_byte bs) e in
    ap (λ o. ends_in o bs) (goes_on (class_of b) (name_class b p.0)) ∙ word_on bs p.1

-- the parts of a name
record IsName (b : ℕ) (bs : List ℕ) : Type 0 where
  first : is_letter b ≡ true
  more : list_all is_name_byte bs ≡ true
  short : length bs ≤ 31

name_parts : (b : ℕ) (bs : List ℕ) → is_name (b ∷ bs) ≡ true → IsName b bs
name_parts b bs e =
    let p = and_parts (is_letter b && list_all is_name_byte bs) (nat_le (length bs) 31) e in
    let q = and_parts (is_letter b) (list_all is_name_byte bs) p.0 in
    record { first = q.0; more = q.1; short = leb-true (length bs) 31 p.1 }

pub name_kind : (name : List ℕ) → is_name name ≡ true → kind_in name ≡ Some (kind_of_word name)
name_kind [] e = cc
name_kind (b ∷ bs) e =
    let is = name_parts b bs e in
    let short = is.short in
    let word : token_of (b ∷ bs) ≡ Some form.Word = ap (λ c. ends_in (step state.Start c) bs) (letter_class b is.first) ∙ word_on bs is.more in
    ap (λ o. kind_by o (b ∷ bs)) word ∙ ap (λ t. if t then Some (kind_of_word (b ∷ bs)) else None) (le-leb (length (b ∷ bs)) 32 (omega (arith, short)))

-- ---- its letters are small

small : (b : ℕ) → (b < 65) ⊎ (91 ≤ b) → to_ascii_lowercase b ≡ b
small b (inl h) = ap (λ t. cond t b (cond (nat_lt b 91) (b + 32) b)) (lt-ltb b 65 h)
small b (inr h) =
    ap (λ t. cond t b (cond (nat_lt b 91) (b + 32) b)) (le-ltb b 65 (omega (arith, h)))
    ∙ ap (λ t. cond t (b + 32) b) (le-ltb b 91 h)

small_letter : (b : ℕ) → is_letter b ≡ true → to_ascii_lowercase b ≡ b
small_letter b e = let low = leb-true 97 b (and_parts (nat_le 97 b) (nat_le b 122) e).0 in small b (inr (omega (arith, low)))

small_byte : (b : ℕ) → is_name_byte b ≡ true → to_ascii_lowercase b ≡ b
small_byte b e =
    ⊎_elim
    (λ f. ⊎_elim (λ l. small_letter b l) (λ d. let high = (digit_range b d).1 in small b (inl (omega (arith, high)))) (or_cases (is_letter b) (is_digit b) f))
    (λ u. let is = same_number b 95 u in small b (inr (omega (arith, is))))
    (or_cases (is_letter b || is_digit b) (b == 95) e)

small_bytes : (bs : List ℕ) → list_all is_name_byte bs ≡ true → lowered bs ≡ bs
small_bytes [] e = refl
small_bytes (b ∷ bs) e =
    let p = and_parts (is_name_byte b) (list_all is_name_byte bs) e in
    ap (λ x. x ∷ lowered bs) (small_byte b p.0) ∙ ap (λ x. b ∷ x) (small_bytes bs p.1)

pub name_back : (name : List ℕ) → is_name name ≡ true → lowered name ≡ name
name_back [] e = cc
name_back (b ∷ bs) e =
    let is = name_parts b bs e in
    ap (λ x. x ∷ lowered bs) (small_letter b is.first) ∙ ap (λ x. b ∷ x) (small_bytes bs is.more)

-- ---- the word of a type names a type that has this word

abbrev is_type : Kind → Bool
is_type k.TypeWord = true
is_type kind = false

-- whether a reserved word is none of a type, or its type has it
abbrev fine : List ℕ × Kind → Bool
fine p = not (is_type p.1) || bytes_eq (type_name (type_of (lowered p.0))) (lowered p.0)

by_test : (P : Reservations → Type 0) (t : Bool) (a b : Reservations) → P a → P b → P (if t then a else b)
by_test P true a b p q = p
by_test P false a b p q = q

abbrev AllFine : Reservations → Type 0
AllFine ps = list_all fine ps ≡ true

all_fine : (n : ℕ) → AllFine (of_length n)
all_fine n =
    by_test AllFine (n == 2) two _ refl (by_test AllFine (n == 3) three _ refl (by_test AllFine (n == 4) four _ refl (by_test AllFine (n == 5) five _ refl
    (by_test AllFine (n == 6) six _ refl (by_test AllFine (n == 7) seven _ refl (by_test AllFine (n == 8) eight [] refl refl))))))

type_among : (word : List ℕ) → lowered word ≡ word → (ps : Reservations) → AllFine ps → kind_among word ps ≡ k.TypeWord → type_name (type_of word) ≡ word
type_among word low [] f e = cc
type_among word low (p ∷ ps) f e = go (type_among word low ps) (same_word word p.0) refl e
  where
    parts : (fine p ≡ true) × (list_all fine ps ≡ true)
    parts = and_parts (fine p) (list_all fine ps) f

    go : (AllFine ps → kind_among word ps ≡ k.TypeWord → type_name (type_of word) ≡ word) → (t : Bool) → same_word word p.0 ≡ t → (if t then p.1 else kind_among word ps) ≡ k.TypeWord → type_name (type_of word) ≡ word
    go ih false s i = ih parts.1 i
    go ih true s i =
        let same : lowered word ≡ lowered p.0 = (bytes_eq-Decides (lowered word) (lowered p.0)).0 s in
        let is : lowered p.0 ≡ word = sym same ∙ low in
        let tested : not (is_type k.TypeWord) || bytes_eq (type_name (type_of (lowered p.0))) (lowered p.0) ≡ true = subst (λ kind. not (is_type kind) || bytes_eq (type_name (type_of (lowered p.0))) (lowered p.0) ≡ true) i parts.0 in
        subst (λ x. type_name (type_of x) ≡ x) is ((bytes_eq-Decides (type_name (type_of (lowered p.0))) (lowered p.0)).0 tested)

pub type_word_back : (name : List ℕ) → is_name name ≡ true → kind_of_word name ≡ k.TypeWord → type_name (type_of name) ≡ name
type_word_back name is e = type_among name (name_back name is) (of_length (length name)) (all_fine (length name)) e
