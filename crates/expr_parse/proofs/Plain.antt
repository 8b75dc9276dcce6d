-- Only a token of a text in quotes has that kind.
use Rattle.std.proofs.Common.{◌≡◌, ℕ, Bool, true, false, List, [], ◌∷◌, Option, Some, None, length, refl, sym, ap, ◌∙◌}
use Rattle.std.specs.Prelude.{◌==◌, ◌&&◌, ◌||◌, if◌then◌else◌}
use Rattle.ll1_grammar.proofs.Booleans.{and_left, and_right}
use Rattle.notebook_grammar.specs.declared.kind.Kind.{Kind}
use Rattle.notebook_grammar.specs.declared.kind.Kind.TheVariants as k
use Rattle.notebook_grammar.specs.declared.scan.Form.{Form}
use Rattle.notebook_grammar.specs.declared.scan.Form.TheVariants as form
use Rattle.notebook_grammar.specs.declared.scan.Class.{Class}
use Rattle.notebook_grammar.specs.declared.scan.Class.TheVariants as class
use Rattle.notebook_grammar.specs.declared.scan.State.{State}
use Rattle.notebook_grammar.specs.declared.scan.State.TheVariants as state
use Rattle.notebook_grammar.specs.Forms.{between, class_of, begin, step, form_of}
use Rattle.notebook_grammar.specs.Longest.{ends_in, token_of}
use Rattle.notebook_grammar.specs.Words.{Reservations, same_word, kind_among, kind_of_word, of_length, two, three, four, five, six, seven, eight}
use Rattle.notebook_grammar.specs.Lexemes.{kind_of}
use Rattle.notebook_grammar.proofs.OneReading.{ends_nowhere}
use Rattle.notebook_grammar.proofs.WordForms.{either, all_later, no_both}

abbrev is_plain : Kind → Bool
is_plain k.Quoted = false
is_plain kind = true

-- ---- no mark has it

abbrev marks_in : Class → Bool
marks_in (class.Mark kind) = is_plain kind
marks_in c = true

class_marks : (b : ℕ) → marks_in (class_of b) ≡ true
class_marks b =
    either marks_in (between 97 122 b || between 65 90 b) true class.Letter _ refl
    (either marks_in (b == 95) true class.Underscore _ refl
    (either marks_in (between 48 57 b) true class.Digit _ refl (all_later marks_in true b refl refl refl refl refl refl refl refl refl refl refl refl refl refl refl refl refl refl refl)))

abbrev marks_at : Option State → Bool
marks_at None = true
marks_at (Some (state.Mark kind)) = is_plain kind
marks_at (Some s) = true

begin_marks : (c : Class) → marks_in c ≡ true → marks_at (begin c) ≡ true
begin_marks class.Letter e = refl
begin_marks class.Underscore e = refl
begin_marks class.Digit e = refl
begin_marks class.Quote e = refl
begin_marks class.Point e = refl
begin_marks class.Less e = refl
begin_marks class.Greater e = refl
begin_marks class.Bang e = refl
begin_marks class.Bar e = refl
begin_marks class.Equal e = refl
begin_marks (class.Mark kind) e = e
begin_marks class.Other e = refl

step_marks : (s : State) (c : Class) → marks_in c ≡ true → marks_at (step s c) ≡ true
step_marks state.Start c e = begin_marks c e
step_marks state.Word class.Letter e = refl
step_marks state.Word class.Underscore e = refl
step_marks state.Word class.Digit e = refl
step_marks state.Whole class.Digit e = refl
step_marks state.Whole class.Point e = refl
step_marks state.Point class.Digit e = refl
step_marks state.OnePlace class.Digit e = refl
step_marks state.TwoPlaces class.Digit e = refl
step_marks state.ThreePlaces class.Digit e = refl
step_marks state.Open class.Quote e = refl
step_marks state.Open c e = refl
step_marks state.Shut class.Quote e = refl
step_marks state.Less class.Equal e = refl
step_marks state.Less class.Greater e = refl
step_marks state.Greater class.Equal e = refl
step_marks state.Bang class.Equal e = refl
step_marks state.Bar class.Bar e = refl
step_marks s c e = refl

abbrev marked : Option Form → Bool
marked (Some (form.Mark kind)) = is_plain kind
marked o = true

form_marks : (s : State) → marks_at (Some s) ≡ true → marked (form_of s) ≡ true
form_marks state.Word e = refl
form_marks state.Whole e = refl
form_marks state.OnePlace e = refl
form_marks state.TwoPlaces e = refl
form_marks state.ThreePlaces e = refl
form_marks state.FourPlaces e = refl
form_marks state.Shut e = refl
form_marks state.Less e = refl
form_marks state.Greater e = refl
form_marks (state.Mark kind) e = e
form_marks s e = refl

ends_marked : (bs : List ℕ) (s : State) → marks_at (Some s) ≡ true → marked (ends_in (Some s) bs) ≡ true
ends_marked [] s e = form_marks s e
ends_marked (b ∷ bs) s e = by_step (ends_marked bs) (step s (class_of b)) (step_marks s (class_of b) (class_marks b))
  where
    by_step : ((t : State) → marks_at (Some t) ≡ true → marked (ends_in (Some t) bs) ≡ true) → (o : Option State) → marks_at o ≡ true → marked (ends_in o bs) ≡ true
    by_step ih None h = ap marked (ends_nowhere bs)
    by_step ih (Some t) h = ih t h

-- ---- no word has it

abbrev are_plain : Reservations → Bool
are_plain [] = true
are_plain (p ∷ ps) = is_plain p.1 && are_plain ps

among : (word : List ℕ) (ps : Reservations) → are_plain ps ≡ true → is_plain (kind_among word ps) ≡ true
among word [] e = refl
among word (p ∷ ps) e = go (among word ps (and_right (is_plain p.1) _ e)) (same_word word p.0)
  where
    go : is_plain (kind_among word ps) ≡ true → (t : Bool) → is_plain (if t then p.1 else kind_among word ps) ≡ true
    go ih true = and_left (is_plain p.1) _ e
    go ih false = ih

one_of_two : (t : Bool) (a b : Reservations) → are_plain a ≡ true → are_plain b ≡ true → are_plain (if t then a else b) ≡ true
one_of_two true a b e f = e
one_of_two false a b e f = f

plain_word : (word : List ℕ) → is_plain (kind_of_word word) ≡ true
plain_word word = among word (of_length (length word)) (by_length (length word))
  where
    by_length : (n : ℕ) → are_plain (of_length n) ≡ true
    by_length n =
        one_of_two (n == 2) two _ refl (one_of_two (n == 3) three _ refl (one_of_two (n == 4) four _ refl (one_of_two (n == 5) five _ refl
        (one_of_two (n == 6) six _ refl (one_of_two (n == 7) seven _ refl (one_of_two (n == 8) eight _ refl refl))))))

-- a token of this kind has this form
pub form_is : (bs : List ℕ) (f : Form) → token_of bs ≡ Some f → kind_of f bs ≡ k.Quoted → f ≡ form.Quoted
form_is bs form.Word t e = absurd (no_both _ (plain_word bs) (ap is_plain e))
form_is bs form.Whole t e = absurd (let k = ap is_plain e in cc)
form_is bs form.Decimal t e = absurd (let k = ap is_plain e in cc)
form_is bs form.Quoted t e = refl
form_is bs (form.Mark kind) t e = absurd (no_both _ (sym (ap marked t) ∙ ends_marked bs state.Start refl) (ap is_plain e))
