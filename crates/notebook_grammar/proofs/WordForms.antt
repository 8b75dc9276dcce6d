-- A token that is a word is a name, but for the case of its letters.
use Rattle.std.proofs.Common.{◌≡◌, ℕ, suc, ◌+◌, ◌<◌, ◌≤◌, Bool, true, false, List, [], ◌∷◌, Option, Some, None, length, map, refl, sym, ap, ◌∙◌, subst, arith, ◌⊎◌, inl, inr, ⊎_elim, cond}
use Rattle.std.specs.Prelude.{◌==◌, ◌&&◌, ◌||◌, nat_le, nat_lt, if◌then◌else◌}
use Rattle.std.specs.List.{list_all}
use Rattle.std.specs.Char.{to_ascii_lowercase}
use Rattle.std.proofs.lemmas.Bool.Decides.{nat_tests}
use Rattle.value_types.specs.Names.{is_letter, is_digit, is_name_byte, is_name}
use Rattle.ll1_grammar.proofs.Booleans.{and_both, and_left, and_right, or_left, or_right, or_cases}
use Rattle.notebook_grammar.specs.declared.kind.Kind.TheVariants as k
use Rattle.notebook_grammar.specs.declared.scan.Form.{Form}
use Rattle.notebook_grammar.specs.declared.scan.Form.TheVariants as form
use Rattle.notebook_grammar.specs.declared.scan.Class.{Class}
use Rattle.notebook_grammar.specs.declared.scan.Class.TheVariants as class
use Rattle.notebook_grammar.specs.declared.scan.State.{State}
use Rattle.notebook_grammar.specs.declared.scan.State.TheVariants as state
use Rattle.notebook_grammar.specs.Forms.{between, class_of, begin, step, form_of}
use Rattle.notebook_grammar.specs.Longest.{ends_in, token_of}
use Rattle.notebook_grammar.proofs.OneReading.{ends_nowhere, same_number}

-- ---- no way leads from one kind of token to another

-- words, numbers, texts and marks
abbrev group : State → ℕ
group state.Start = 0
group state.Word = 1
group state.Whole = 2
group state.Point = 2
group state.OnePlace = 2
group state.TwoPlaces = 2
group state.ThreePlaces = 2
group state.FourPlaces = 2
group state.Open = 3
group state.Shut = 3
group s = 4

abbrev group_of : Form → ℕ
group_of form.Word = 1
group_of form.Whole = 2
group_of form.Decimal = 2
group_of form.Quoted = 3
group_of (form.Mark kind) = 4

abbrev stays : State → Option State → Bool
stays s None = true
stays s (Some t) = group t == group s

same_group : (s : State) (c : Class) → group s == 0 ≡ false → stays s (step s c) ≡ true
same_group state.Start c e = cc
same_group state.Word class.Letter e = refl
same_group state.Word class.Underscore e = refl
same_group state.Word class.Digit e = refl
same_group state.Whole class.Digit e = refl
same_group state.Whole class.Point e = refl
same_group state.Point class.Digit e = refl
same_group state.OnePlace class.Digit e = refl
same_group state.TwoPlaces class.Digit e = refl
same_group state.ThreePlaces class.Digit e = refl
same_group state.Open class.Quote e = refl
same_group state.Open c e = refl
same_group state.Shut class.Quote e = refl
same_group state.Less class.Equal e = refl
same_group state.Less class.Greater e = refl
same_group state.Greater class.Equal e = refl
same_group state.Bang class.Equal e = refl
same_group state.Bar class.Bar e = refl
same_group s c e = refl

abbrev suits : State → Option Form → Bool
suits s None = true
suits s (Some f) = group_of f == group s

same_form : (s : State) → suits s (form_of s) ≡ true
same_form state.Word = refl
same_form state.Whole = refl
same_form state.OnePlace = refl
same_form state.TwoPlaces = refl
same_form state.ThreePlaces = refl
same_form state.FourPlaces = refl
same_form state.Shut = refl
same_form state.Less = refl
same_form state.Greater = refl
same_form (state.Mark kind) = refl
same_form s = refl

ends_in_group : (bs : List ℕ) (s : State) (f : Form) → group s == 0 ≡ false → ends_in (Some s) bs ≡ Some f → group_of f ≡ group s
ends_in_group [] s f e h = same_number (group_of f) (group s) (subst (λ o. suits s o ≡ true) h (same_form s))
ends_in_group (b ∷ bs) s f e h = by_step (λ t g i. ends_in_group bs t f g i) (step s (class_of b)) refl h
  where
    by_step : ((t : State) → group t == 0 ≡ false → ends_in (Some t) bs ≡ Some f → group_of f ≡ group t) → (o : Option State) → step s (class_of b) ≡ o → ends_in o bs ≡ Some f → group_of f ≡ group s
    by_step ih None q i = let none = sym (ends_nowhere bs) ∙ i in cc
    by_step ih (Some t) q i =
        let same : group t ≡ group s = same_number (group t) (group s) (subst (λ o. stays s o ≡ true) q (same_group s (class_of b) e)) in
        ih t (ap (λ n. n == 0) same ∙ e) i ∙ same

-- ---- how a word begins

begins_elsewhere : (t s : State) → (let o : Option State = Some t in o) ≡ Some s → (group t == 1) ≡ false → group s ≡ 1 → ⊥
begins_elsewhere t s e f g = let same : t ≡ s = cc in let one = sym f ∙ ap (λ x. group x == 1) same ∙ ap (λ n. n == 1) g in cc

begins_word : (c : Class) (s : State) → begin c ≡ Some s → group s ≡ 1 → (c ≡ class.Letter) × (s ≡ state.Word)
begins_word class.Letter s e g = (refl, cc)
begins_word class.Underscore s e g = cc
begins_word class.Digit s e g = absurd (begins_elsewhere state.Whole s e refl g)
begins_word class.Quote s e g = absurd (begins_elsewhere state.Open s e refl g)
begins_word class.Point s e g = absurd (begins_elsewhere (state.Mark k.Point) s e refl g)
begins_word class.Less s e g = absurd (begins_elsewhere state.Less s e refl g)
begins_word class.Greater s e g = absurd (begins_elsewhere state.Greater s e refl g)
begins_word class.Bang s e g = absurd (begins_elsewhere state.Bang s e refl g)
begins_word class.Bar s e g = absurd (begins_elsewhere state.Bar s e refl g)
begins_word class.Equal s e g = absurd (begins_elsewhere (state.Mark k.Equal) s e refl g)
begins_word (class.Mark kind) s e g = absurd (begins_elsewhere (state.Mark kind) s e refl g)
begins_word class.Other s e g = cc

abbrev is_begun : Option State → Bool
is_begun None = false
is_begun (Some t) = group t == 0

none_begun : (c : Class) → is_begun (begin c) ≡ false
none_begun class.Letter = refl
none_begun class.Underscore = refl
none_begun class.Digit = refl
none_begun class.Quote = refl
none_begun class.Point = refl
none_begun class.Less = refl
none_begun class.Greater = refl
none_begun class.Bang = refl
none_begun class.Bar = refl
none_begun class.Equal = refl
none_begun (class.Mark kind) = refl
none_begun class.Other = refl

begun : (c : Class) (s : State) → begin c ≡ Some s → group s == 0 ≡ false
begun c s e = subst (λ o. is_begun o ≡ false) e (none_begun c)

-- ---- bytes by their class

-- the classes after letters, `_` and digits
abbrev later : ℕ → Class
later b =
    if b == 39 then class.Quote
    else if b == 46 then class.Point
    else if b == 60 then class.Less
    else if b == 62 then class.Greater
    else if b == 33 then class.Bang
    else if b == 124 then class.Bar
    else if b == 61 then class.Equal
    else if b == 43 then class.Mark k.Plus
    else if b == 45 then class.Mark k.Minus
    else if b == 42 then class.Mark k.Star
    else if b == 47 then class.Mark k.Slash
    else if b == 37 then class.Mark k.Percent
    else if b == 44 then class.Mark k.Comma
    else if b == 40 then class.Mark k.Open
    else if b == 41 then class.Mark k.Close
    else if b == 59 then class.Mark k.Semicolon
    else if b == 123 then class.Mark k.OpenBrace
    else if b == 125 then class.Mark k.CloseBrace
    else class.Other

pub either : (P : Class → Bool) (t r : Bool) (a c : Class) → P a ≡ r → P c ≡ r → P (if t then a else c) ≡ r
either P true r a c e f = e
either P false r a c e f = f

-- what holds of each later class holds of the byte's
pub all_later : (P : Class → Bool) (r : Bool) (b : ℕ) → P class.Quote ≡ r → P class.Point ≡ r → P class.Less ≡ r → P class.Greater ≡ r → P class.Bang ≡ r → P class.Bar ≡ r → P class.Equal ≡ r → P class.Other ≡ r
    → P (class.Mark k.Plus) ≡ r → P (class.Mark k.Minus) ≡ r → P (class.Mark k.Star) ≡ r → P (class.Mark k.Slash) ≡ r → P (class.Mark k.Percent) ≡ r → P (class.Mark k.Comma) ≡ r
    → P (class.Mark k.Open) ≡ r → P (class.Mark k.Close) ≡ r → P (class.Mark k.Semicolon) ≡ r → P (class.Mark k.OpenBrace) ≡ r → P (class.Mark k.CloseBrace) ≡ r → P (later b) ≡ r
all_later P r b quote point less greater bang bar equal other plus minus star slash percent comma open_mark close_mark semicolon open_brace close_brace =
    either P (b == 39) r _ _ quote (either P (b == 46) r _ _ point (either P (b == 60) r _ _ less (either P (b == 62) r _ _ greater (either P (b == 33) r _ _ bang
    (either P (b == 124) r _ _ bar (either P (b == 61) r _ _ equal (either P (b == 43) r _ _ plus (either P (b == 45) r _ _ minus (either P (b == 42) r _ _ star
    (either P (b == 47) r _ _ slash (either P (b == 37) r _ _ percent (either P (b == 44) r _ _ comma (either P (b == 40) r _ _ open_mark (either P (b == 41) r _ _ close_mark
    (either P (b == 59) r _ _ semicolon (either P (b == 123) r _ _ open_brace (either P (b == 125) r _ _ close_brace other)))))))))))))))))

abbrev is_word_class : Class → Bool
is_word_class class.Letter = true
is_word_class class.Underscore = true
is_word_class class.Digit = true
is_word_class c = false

abbrev is_letter_class : Class → Bool
is_letter_class class.Letter = true
is_letter_class c = false

pick : (P : Class → Bool) (t : Bool) (a c : Class) → P (if t then a else c) ≡ true → (t ≡ true) ⊎ (P c ≡ true)
pick P true a c e = inl refl
pick P false a c e = inr e

pub no_both : (a : Bool) → a ≡ true → a ≡ false → ⊥
no_both a e f = cc

-- ---- tests of numbers

le_of : (a b : ℕ) → nat_le a b ≡ true → a ≤ b
le_of a b e = grind (arith, nat_tests)

le_test : (a b : ℕ) → a ≤ b → nat_le a b ≡ true
le_test a b e = grind (arith, nat_tests)

lt_of : (a b : ℕ) → nat_lt a b ≡ true → a < b
lt_of a b e = grind (arith, nat_tests)

ge_of : (a b : ℕ) → nat_lt a b ≡ false → b ≤ a
ge_of a b e = grind (arith, nat_tests)

-- ---- small letters

stays_low : (b : ℕ) → (b < 65) ⊎ (90 < b) → to_ascii_lowercase b ≡ b
stays_low b h = go (nat_lt b 65) refl (nat_lt b 91) refl
  where
    go : (t : Bool) → nat_lt b 65 ≡ t → (u : Bool) → nat_lt b 91 ≡ u → cond t b (cond u (b + 32) b) ≡ b
    go true q u r = refl
    go false q true r = let low = ge_of b 65 q in let high = lt_of b 91 r in ⊎_elim (λ x. absurd (omega (arith, x, low))) (λ x. absurd (omega (arith, x, high))) h
    go false q false r = refl

grows_low : (b : ℕ) → 65 ≤ b → b ≤ 90 → to_ascii_lowercase b ≡ b + 32
grows_low b low high = go (nat_lt b 65) refl (nat_lt b 91) refl
  where
    go : (t : Bool) → nat_lt b 65 ≡ t → (u : Bool) → nat_lt b 91 ≡ u → cond t b (cond u (b + 32) b) ≡ b + 32
    go true q u r = let less = lt_of b 65 q in absurd (omega (arith, low, less))
    go false q true r = refl
    go false q false r = let more = ge_of b 91 r in absurd (omega (arith, high, more))

letter_low : (b : ℕ) → between 97 122 b || between 65 90 b ≡ true → is_letter (to_ascii_lowercase b) ≡ true
letter_low b e = ⊎_elim (λ s. small s) (λ g. great g) (or_cases (between 97 122 b) (between 65 90 b) e)
  where
    small : between 97 122 b ≡ true → is_letter (to_ascii_lowercase b) ≡ true
    small s = let low = le_of 97 b (and_left (nat_le 97 b) _ s) in ap is_letter (stays_low b (inr (omega (arith, low)))) ∙ s

    great : between 65 90 b ≡ true → is_letter (to_ascii_lowercase b) ≡ true
    great g =
        let low = le_of 65 b (and_left (nat_le 65 b) _ g) in
        let high = le_of b 90 (and_right (nat_le 65 b) _ g) in
        ap is_letter (grows_low b low high) ∙ and_both (nat_le 97 (b + 32)) _ (le_test 97 (b + 32) (omega (arith, low))) (le_test (b + 32) 122 (omega (arith, high)))

digit_low : (b : ℕ) → between 48 57 b ≡ true → is_digit (to_ascii_lowercase b) ≡ true
digit_low b e = let high = le_of b 57 (and_right (nat_le 48 b) _ e) in ap is_digit (stays_low b (inl (omega (arith, high)))) ∙ e

name_byte : (b : ℕ) → is_word_class (class_of b) ≡ true → is_name_byte (to_ascii_lowercase b) ≡ true
name_byte b e = by_first (pick is_word_class (between 97 122 b || between 65 90 b) class.Letter (if b == 95 then class.Underscore else if between 48 57 b then class.Digit else later b) e)
  where
    x : ℕ
    x = to_ascii_lowercase b

    by_third : (between 48 57 b ≡ true) ⊎ (is_word_class (later b) ≡ true) → is_name_byte (to_ascii_lowercase b) ≡ true
    by_third (inl d) = or_left (is_letter (to_ascii_lowercase b) || is_digit (to_ascii_lowercase b)) _ (or_right (is_letter (to_ascii_lowercase b)) _ (digit_low b d))
    by_third (inr h) = absurd (no_both (is_word_class (later b)) h (all_later is_word_class false b refl refl refl refl refl refl refl refl refl refl refl refl refl refl refl refl refl refl refl))

    by_second : (b == 95 ≡ true) ⊎ (is_word_class (if between 48 57 b then class.Digit else later b) ≡ true) → is_name_byte (to_ascii_lowercase b) ≡ true
    by_second (inl u) = ap (λ n. is_name_byte (to_ascii_lowercase n)) (same_number b 95 u)
    by_second (inr h) = by_third (pick is_word_class (between 48 57 b) class.Digit (later b) h)

    by_first : (between 97 122 b || between 65 90 b ≡ true) ⊎ (is_word_class (if b == 95 then class.Underscore else if between 48 57 b then class.Digit else later b) ≡ true) → is_name_byte (to_ascii_lowercase b) ≡ true
    by_first (inl l) = or_left (is_letter (to_ascii_lowercase b) || is_digit (to_ascii_lowercase b)) _ (or_left (is_letter (to_ascii_lowercase b)) _ (letter_low b l))
    by_first (inr h) = by_second (pick is_word_class (b == 95) class.Underscore (if between 48 57 b then class.Digit else later b) h)

letter_byte : (b : ℕ) → is_letter_class (class_of b) ≡ true → is_letter (to_ascii_lowercase b) ≡ true
letter_byte b e = by_first (pick is_letter_class (between 97 122 b || between 65 90 b) class.Letter (if b == 95 then class.Underscore else if between 48 57 b then class.Digit else later b) e)
  where
    no_letter : is_letter_class (if b == 95 then class.Underscore else if between 48 57 b then class.Digit else later b) ≡ false
    no_letter =
        either is_letter_class (b == 95) false class.Underscore _ refl
        (either is_letter_class (between 48 57 b) false class.Digit _ refl (all_later is_letter_class false b refl refl refl refl refl refl refl refl refl refl refl refl refl refl refl refl refl refl refl))

    by_first : (between 97 122 b || between 65 90 b ≡ true) ⊎ (is_letter_class (if b == 95 then class.Underscore else if between 48 57 b then class.Digit else later b) ≡ true) → is_letter (to_ascii_lowercase b) ≡ true
    by_first (inl l) = letter_low b l
    by_first (inr h) = absurd (no_both _ h no_letter)

-- ---- words

word_bytes : (bs : List ℕ) → ends_in (Some state.Word) bs ≡ Some form.Word → list_all is_name_byte (map to_ascii_lowercase bs) ≡ true
word_bytes [] h = refl
word_bytes (b ∷ bs) h = by_class (word_bytes bs) (class_of b) refl h
  where
    by_class : (ends_in (Some state.Word) bs ≡ Some form.Word → list_all is_name_byte (map to_ascii_lowercase bs) ≡ true) → (c : Class) → class_of b ≡ c → ends_in (step state.Word c) bs ≡ Some form.Word
        → is_name_byte (to_ascii_lowercase b) && list_all is_name_byte (map to_ascii_lowercase bs) ≡ true
    by_class ih class.Letter q i = and_both (is_name_byte (to_ascii_lowercase b)) _ (name_byte b (ap is_word_class q)) (ih i)
    by_class ih class.Underscore q i = and_both (is_name_byte (to_ascii_lowercase b)) _ (name_byte b (ap is_word_class q)) (ih i)
    by_class ih class.Digit q i = and_both (is_name_byte (to_ascii_lowercase b)) _ (name_byte b (ap is_word_class q)) (ih i)
    by_class ih c q i = let none = sym (ends_nowhere bs) ∙ i in cc

length_lowered : (bs : List ℕ) → length (map to_ascii_lowercase bs) ≡ length bs
length_lowered [] = refl
length_lowered (b ∷ bs) = ap suc (length_lowered bs)

pub word_is_name : (bs : List ℕ) → token_of bs ≡ Some form.Word → nat_le (length bs) 32 ≡ true → is_name (map to_ascii_lowercase bs) ≡ true
word_is_name [] e h = cc
word_is_name (b ∷ bs) e h = by_begin (begin (class_of b)) refl e
  where
    short : nat_le (length (map to_ascii_lowercase bs)) 31 ≡ true
    short = let few = le_of (length (b ∷ bs)) 32 h in let same = length_lowered bs in le_test (length (map to_ascii_lowercase bs)) 31 (omega (arith, few, same))

    by_begin : (o : Option State) → begin (class_of b) ≡ o → ends_in o bs ≡ Some form.Word → is_name (map to_ascii_lowercase (b ∷ bs)) ≡ true
    by_begin None q i = let none = sym (ends_nowhere bs) ∙ i in cc
    by_begin (Some s) q i =
        let w = begins_word (class_of b) s q (sym (ends_in_group bs s form.Word (begun (class_of b) s q) i)) in
        and_both (is_letter (to_ascii_lowercase b) && list_all is_name_byte (map to_ascii_lowercase bs)) _
        (and_both (is_letter (to_ascii_lowercase b)) _ (letter_byte b (ap is_letter_class w.0)) (word_bytes bs (subst (λ x. ends_in (Some x) bs ≡ Some form.Word) w.1 i)))
        short
