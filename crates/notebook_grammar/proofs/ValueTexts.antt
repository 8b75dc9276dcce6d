-- The texts of tokens that hold a value.
use Rattle.std.proofs.Common.{◌≡◌, ℕ, zero, suc, ◌-◌, Bool, true, false, List, [], ◌∷◌, Option, Some, None, length, take, drop, map, refl, sym, ap, ◌∙◌, subst, arith}
use Rattle.std.specs.Prelude.{slice_get, ◌==◌, ◌&&◌, ◌||◌, not, if◌then◌else◌}
use Rattle.std.specs.Char.{to_ascii_lowercase}
use Rattle.std.specs.Option.{is_some}
use Rattle.value_types.specs.Names.{is_name}
use Rattle.value_types.specs.Numbers.{int_of, fixed_of}
use Rattle.ll1_grammar.proofs.Booleans.{and_left, and_right}
use Rattle.notebook_grammar.specs.declared.kind.Kind.{Kind}
use Rattle.notebook_grammar.specs.declared.kind.Kind.TheVariants as k
use Rattle.notebook_grammar.specs.declared.scan.Form.{Form}
use Rattle.notebook_grammar.specs.declared.scan.Form.TheVariants as form
use Rattle.notebook_grammar.specs.declared.scan.Class.{Class}
use Rattle.notebook_grammar.specs.declared.scan.Class.TheVariants as class
use Rattle.notebook_grammar.specs.declared.scan.State.{State}
use Rattle.notebook_grammar.specs.declared.scan.State.TheVariants as state
use Rattle.notebook_grammar.specs.declared.lexeme.Lexeme.{Lexeme}
use Rattle.notebook_grammar.specs.Forms.{between, class_of, begin, step, form_of}
use Rattle.notebook_grammar.specs.Longest.{ends_in, token_of}
use Rattle.notebook_grammar.specs.Words.{Reservations, same_word, kind_among, kind_of_word, of_length, two, three, four, five, six, seven, eight}
use Rattle.notebook_grammar.specs.Lexemes.{is_small, kind_of, Begins, LexemesFrom, ends, blank, token, stray}
use Rattle.notebook_grammar.specs.Values.{text_of, lower_of, HasValue}
use Rattle.notebook_grammar.specs.Laws.{ValuesAreThere}
use Rattle.notebook_grammar.proofs.OneReading.{ends_nowhere}
use Rattle.notebook_grammar.proofs.WordForms.{either, all_later, word_is_name, no_both}

-- the kinds whose tokens hold a value, numbers 2
abbrev value_of : Kind → ℕ
value_of k.Name = 1
value_of k.TypeWord = 1
value_of k.Whole = 2
value_of k.Decimal = 3
value_of kind = 0

-- ---- no mark is a name or a number

abbrev marks_in : Class → Bool
marks_in (class.Mark kind) = value_of kind == 0
marks_in c = true

class_marks : (b : ℕ) → marks_in (class_of b) ≡ true
class_marks b =
    either marks_in (between 97 122 b || between 65 90 b) true class.Letter _ refl
    (either marks_in (b == 95) true class.Underscore _ refl
    (either marks_in (between 48 57 b) true class.Digit _ refl (all_later marks_in true b refl refl refl refl refl refl refl refl refl refl refl refl refl refl refl refl refl refl refl)))

abbrev marks_at : Option State → Bool
marks_at None = true
marks_at (Some (state.Mark kind)) = value_of kind == 0
marks_at (Some s) = true

begin_marks : (c : Class) → marks_in c ≡ true → marks_at (begin c) ≡ true
begin_marks class.Letter e = refl
begin_marks class.Underscore e = refl
begin_marks class.Digit e = refl
begin_marks class.Quote e = refl
begin_marks class.Point e = refl
begin_marks class.Less e = refl
begin_marks class.Greater e = refl
begin_marks class.Bang e = refl
begin_marks class.Bar e = refl
begin_marks class.Equal e = refl
begin_marks (class.Mark kind) e = e
begin_marks class.Other e = refl

step_marks : (s : State) (c : Class) → marks_in c ≡ true → marks_at (step s c) ≡ true
step_marks state.Start c e = begin_marks c e
step_marks state.Word class.Letter e = refl
step_marks state.Word class.Underscore e = refl
step_marks state.Word class.Digit e = refl
step_marks state.Whole class.Digit e = refl
step_marks state.Whole class.Point e = refl
step_marks state.Point class.Digit e = refl
step_marks state.OnePlace class.Digit e = refl
step_marks state.TwoPlaces class.Digit e = refl
step_marks state.ThreePlaces class.Digit e = refl
step_marks state.Open class.Quote e = refl
step_marks state.Open c e = refl
step_marks state.Shut class.Quote e = refl
step_marks state.Less class.Equal e = refl
step_marks state.Less class.Greater e = refl
step_marks state.Greater class.Equal e = refl
step_marks state.Bang class.Equal e = refl
step_marks state.Bar class.Bar e = refl
step_marks s c e = refl

abbrev marked : Option Form → Bool
marked (Some (form.Mark kind)) = value_of kind == 0
marked o = true

form_marks : (s : State) → marks_at (Some s) ≡ true → marked (form_of s) ≡ true
form_marks state.Word e = refl
form_marks state.Whole e = refl
form_marks state.OnePlace e = refl
form_marks state.TwoPlaces e = refl
form_marks state.ThreePlaces e = refl
form_marks state.FourPlaces e = refl
form_marks state.Shut e = refl
form_marks state.Less e = refl
form_marks state.Greater e = refl
form_marks (state.Mark kind) e = e
form_marks s e = refl

ends_marked : (bs : List ℕ) (s : State) → marks_at (Some s) ≡ true → marked (ends_in (Some s) bs) ≡ true
ends_marked [] s e = form_marks s e
ends_marked (b ∷ bs) s e = by_step (ends_marked bs) (step s (class_of b)) (step_marks s (class_of b) (class_marks b))
  where
    by_step : ((t : State) → marks_at (Some t) ≡ true → marked (ends_in (Some t) bs) ≡ true) → (o : Option State) → marks_at o ≡ true → marked (ends_in o bs) ≡ true
    by_step ih None h = ap marked (ends_nowhere bs)
    by_step ih (Some t) h = ih t h

-- ---- no word is a number

abbrev is_number : Kind → Bool
is_number k.Whole = true
is_number k.Decimal = true
is_number kind = false

abbrev no_numbers : Reservations → Bool
no_numbers [] = true
no_numbers (p ∷ ps) = not (is_number p.1) && no_numbers ps

not_true : (b : Bool) → not b ≡ true → b ≡ false
not_true true e = cc
not_true false e = refl

among : (word : List ℕ) (ps : Reservations) → no_numbers ps ≡ true → is_number (kind_among word ps) ≡ false
among word [] e = refl
among word (p ∷ ps) e = go (among word ps (and_right (not (is_number p.1)) _ e)) (same_word word p.0)
  where
    go : is_number (kind_among word ps) ≡ false → (t : Bool) → is_number (if t then p.1 else kind_among word ps) ≡ false
    go ih true = not_true (is_number p.1) (and_left (not (is_number p.1)) _ e)
    go ih false = ih

one_of_two : (t : Bool) (a b : Reservations) → no_numbers a ≡ true → no_numbers b ≡ true → no_numbers (if t then a else b) ≡ true
one_of_two true a b e f = e
one_of_two false a b e f = f

no_number : (word : List ℕ) → is_number (kind_of_word word) ≡ false
no_number word = among word (of_length (length word)) (by_length (length word))
  where
    by_length : (n : ℕ) → no_numbers (of_length n) ≡ true
    by_length n =
        one_of_two (n == 2) two _ refl (one_of_two (n == 3) three _ refl (one_of_two (n == 4) four _ refl (one_of_two (n == 5) five _ refl
        (one_of_two (n == 6) six _ refl (one_of_two (n == 7) seven _ refl (one_of_two (n == 8) eight _ refl refl))))))

-- ---- a token's text

module _ (text : List ℕ) (calls : ℕ) (l : Lexeme) (b : Begins text calls l) where
  slice : List ℕ
  slice = take b.size (drop l.at text)

  is_slice : text_of text l ≡ take b.size (drop l.at text)
  is_slice = let end = b.end in let size : l.end - l.at ≡ b.size = omega (arith, end) in ap (λ n. take n (drop l.at text)) size

  -- a word, or a number of the right kind
  by_form : (f : Form) → token_of (take b.size (drop l.at text)) ≡ Some f → is_small f (take b.size (drop l.at text)) ≡ true → l.kind ≡ kind_of f (take b.size (drop l.at text)) → HasValue text l
  by_form form.Word t s e =
      let name : is_name (lower_of text l) ≡ true = ap (λ x. is_name (map to_ascii_lowercase x)) is_slice ∙ word_is_name (take b.size (drop l.at text)) t s in
      let number : is_number l.kind ≡ false = ap is_number e ∙ no_number (take b.size (drop l.at text)) in record {
        name = λ h. name;
        type_word = λ h. name;
        whole = λ h. absurd (no_both (is_number l.kind) (ap is_number h) number);
        decimal = λ h. absurd (no_both (is_number l.kind) (ap is_number h) number);
      }
  by_form form.Whole t s e = record {
    name = λ h. absurd (let k = ap is_number (sym e ∙ h) in cc);
    type_word = λ h. absurd (let k = ap is_number (sym e ∙ h) in cc);
    whole = λ h. ap (λ x. is_some (int_of x)) is_slice ∙ s;
    decimal = λ h. absurd (let k = ap value_of (sym e ∙ h) in let three : 2 ≡ 3 = k in omega arith);
  }
  by_form form.Decimal t s e = record {
    name = λ h. absurd (let k = ap is_number (sym e ∙ h) in cc);
    type_word = λ h. absurd (let k = ap is_number (sym e ∙ h) in cc);
    whole = λ h. absurd (let k = ap value_of (sym e ∙ h) in let three : 3 ≡ 2 = k in omega arith);
    decimal = λ h. ap (λ x. is_some (fixed_of x)) is_slice ∙ s;
  }
  by_form form.Quoted t s e = record {
    name = λ h. absurd (let k = ap value_of (sym e ∙ h) in let zero_one : 0 ≡ 1 = k in omega arith);
    type_word = λ h. absurd (let k = ap value_of (sym e ∙ h) in let zero_one : 0 ≡ 1 = k in omega arith);
    whole = λ h. absurd (let k = ap value_of (sym e ∙ h) in let zero_two : 0 ≡ 2 = k in omega arith);
    decimal = λ h. absurd (let k = ap value_of (sym e ∙ h) in let zero_three : 0 ≡ 3 = k in omega arith);
  }
  by_form (form.Mark kind) t s e =
      let plain : value_of kind == 0 ≡ true = sym (ap marked t) ∙ ends_marked (take b.size (drop l.at text)) state.Start refl in record {
        name = λ h. absurd (let k = sym (ap (λ x. value_of x == 0) (sym e ∙ h)) ∙ plain in cc);
        type_word = λ h. absurd (let k = sym (ap (λ x. value_of x == 0) (sym e ∙ h)) ∙ plain in cc);
        whole = λ h. absurd (let k = sym (ap (λ x. value_of x == 0) (sym e ∙ h)) ∙ plain in cc);
        decimal = λ h. absurd (let k = sym (ap (λ x. value_of x == 0) (sym e ∙ h)) ∙ plain in cc);
      }

  token_has_value : HasValue text l
  token_has_value = by_form b.form b.longest.2 b.small b.kind

stray_has_value : (text : List ℕ) (at calls : ℕ) → HasValue text (record { at = at; end = at; kind = k.Stray; call = calls })
stray_has_value text at calls = record {
  name = λ h. absurd (let k = ap value_of h in let zero_one : 0 ≡ 1 = k in omega arith);
  type_word = λ h. absurd (let k = ap value_of h in let zero_one : 0 ≡ 1 = k in omega arith);
  whole = λ h. absurd (let k = ap value_of h in let zero_two : 0 ≡ 2 = k in omega arith);
  decimal = λ h. absurd (let k = ap value_of h in let zero_three : 0 ≡ 3 = k in omega arith);
}

each_has_value : {text : List ℕ} {at calls : ℕ} {ls : List Lexeme} → LexemesFrom text at calls ls → (i : ℕ) (l : Lexeme) → slice_get ls i ≡ Some l → HasValue text l
each_has_value (ends e) zero l h = cc
each_has_value (ends e) (suc i) l h = cc
each_has_value (blank e is d) i l h = each_has_value d i l h
each_has_value {text = text} (token {calls = calls} {l = m} b d) zero l h = let same : m ≡ l = cc in subst (λ x. HasValue text x) same (token_has_value text calls m b)
each_has_value (token b d) (suc i) l h = each_has_value d i l h
each_has_value {text = text} (stray {at = at} {calls = calls} e is none) zero l h = let same : record { at = at; end = at; kind = k.Stray; call = calls } ≡ l = cc in subst (λ x. HasValue text x) same (stray_has_value text at calls)
each_has_value (stray e is none) (suc zero) l h = cc
each_has_value (stray e is none) (suc (suc i)) l h = cc

pub values_are_there : ValuesAreThere
values_are_there text ls d i l h = each_has_value d i l h
