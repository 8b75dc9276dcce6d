-- A text in quotes begins and ends with one.
use Rattle.std.proofs.Common.{◌≡◌, ℕ, Bool, true, false, List, [], ◌∷◌, ◌++◌, Option, Some, None, refl, sym, ap, ◌∙◌, ◌⊎◌, inl, inr}
use Rattle.std.specs.Prelude.{◌==◌, ◌||◌, if◌then◌else◌}
use Rattle.notebook_grammar.specs.declared.kind.Kind.TheVariants as k
use Rattle.notebook_grammar.specs.declared.scan.Form.TheVariants as form
use Rattle.notebook_grammar.specs.declared.scan.Class.{Class}
use Rattle.notebook_grammar.specs.declared.scan.Class.TheVariants as class
use Rattle.notebook_grammar.specs.declared.scan.State.{State}
use Rattle.notebook_grammar.specs.declared.scan.State.TheVariants as state
use Rattle.notebook_grammar.specs.Forms.{between, class_of, begin, step}
use Rattle.notebook_grammar.specs.Longest.{form_in, ends_in, token_of}
use Rattle.notebook_grammar.proofs.OneReading.{ends_nowhere, same_number}
use Rattle.notebook_grammar.proofs.WordForms.{either, no_both}

abbrev is_quote : Class → Bool
is_quote class.Quote = true
is_quote c = false

-- ---- the one byte of its class

skip : (t : Bool) (a c : Class) → is_quote a ≡ false → is_quote (if t then a else c) ≡ true → is_quote c ≡ true
skip true a c f e = absurd (no_both (is_quote a) e f)
skip false a c f e = e

first : (t : Bool) (c : Class) → is_quote c ≡ false → is_quote (if t then class.Quote else c) ≡ true → t ≡ true
first true c f e = refl
first false c f e = absurd (no_both (is_quote c) e f)

quote_byte : (b : ℕ) → is_quote (class_of b) ≡ true → b ≡ 39
quote_byte b e =
    let tail = skip (between 48 57 b) class.Digit _ refl (skip (b == 95) class.Underscore _ refl (skip (between 97 122 b || between 65 90 b) class.Letter _ refl e)) in
    same_number b 39 (first (b == 39) _
    (either is_quote (b == 46) false class.Point _ refl (either is_quote (b == 60) false class.Less _ refl (either is_quote (b == 62) false class.Greater _ refl
    (either is_quote (b == 33) false class.Bang _ refl (either is_quote (b == 124) false class.Bar _ refl (either is_quote (b == 61) false class.Equal _ refl
    (either is_quote (b == 43) false (class.Mark k.Plus) _ refl (either is_quote (b == 45) false (class.Mark k.Minus) _ refl (either is_quote (b == 42) false (class.Mark k.Star) _ refl
    (either is_quote (b == 47) false (class.Mark k.Slash) _ refl (either is_quote (b == 37) false (class.Mark k.Percent) _ refl (either is_quote (b == 44) false (class.Mark k.Comma) _ refl
    (either is_quote (b == 40) false (class.Mark k.Open) _ refl (either is_quote (b == 41) false (class.Mark k.Close) _ refl (either is_quote (b == 59) false (class.Mark k.Semicolon) _ refl
    (either is_quote (b == 123) false (class.Mark k.OpenBrace) _ refl (either is_quote (b == 125) false (class.Mark k.CloseBrace) class.Other refl refl)))))))))))))))))
    tail)

-- ---- the last byte

abbrev is_shut : Option State → Bool
is_shut (Some state.Shut) = true
is_shut o = false

begins_open : (c : Class) → is_shut (begin c) ≡ false
begins_open class.Letter = refl
begins_open class.Underscore = refl
begins_open class.Digit = refl
begins_open class.Quote = refl
begins_open class.Point = refl
begins_open class.Less = refl
begins_open class.Greater = refl
begins_open class.Bang = refl
begins_open class.Bar = refl
begins_open class.Equal = refl
begins_open (class.Mark kind) = refl
begins_open class.Other = refl

shuts : (s : State) (c : Class) → is_shut (step s c) ≡ true → is_quote c ≡ true
shuts state.Start c e = absurd (no_both _ e (begins_open c))
shuts state.Open class.Quote e = refl
shuts state.Shut class.Quote e = cc
shuts state.Word class.Letter e = cc
shuts state.Word class.Underscore e = cc
shuts state.Word class.Digit e = cc
shuts state.Whole class.Digit e = cc
shuts state.Whole class.Point e = cc
shuts state.Point class.Digit e = cc
shuts state.OnePlace class.Digit e = cc
shuts state.TwoPlaces class.Digit e = cc
shuts state.ThreePlaces class.Digit e = cc
shuts state.Open c e = cc
shuts state.Less class.Equal e = cc
shuts state.Less class.Greater e = cc
shuts state.Greater class.Equal e = cc
shuts state.Bang class.Equal e = cc
shuts state.Bar class.Bar e = cc
shuts s c e = cc

shut : (o : Option State) → form_in o ≡ Some form.Quoted → is_shut o ≡ true
shut None e = cc
shut (Some state.Shut) e = refl
shut (Some state.Word) e = cc
shut (Some state.Whole) e = cc
shut (Some state.OnePlace) e = cc
shut (Some state.TwoPlaces) e = cc
shut (Some state.ThreePlaces) e = cc
shut (Some state.FourPlaces) e = cc
shut (Some state.Less) e = cc
shut (Some state.Greater) e = cc
shut (Some (state.Mark kind)) e = cc
shut (Some s) e = cc

ends_so : (bs : List ℕ) (s : State) (b : ℕ) → ends_in (Some s) (b ∷ bs) ≡ Some form.Quoted → (front : List ℕ) × (b ∷ bs ≡ front ++ 39 ∷ [])
ends_so [] s b h = ([], ap (λ x. x ∷ []) (quote_byte b (shuts s (class_of b) (shut (step s (class_of b)) h))))
ends_so (d ∷ bs) s b h = go (λ t i. ends_so bs t d i) (step s (class_of b)) h
  where
    go : ((t : State) → ends_in (Some t) (d ∷ bs) ≡ Some form.Quoted → (front : List ℕ) × (d ∷ bs ≡ front ++ 39 ∷ []))
        → (o : Option State) → ends_in o (d ∷ bs) ≡ Some form.Quoted → (front : List ℕ) × (b ∷ d ∷ bs ≡ front ++ 39 ∷ [])
    go ih None i = let none = sym (ends_nowhere (d ∷ bs)) ∙ i in cc
    go ih (Some t) i = let r = ih t i in (b ∷ r.0, ap (λ l. b ∷ l) r.1)

-- ---- the first byte

-- whether no way leads to a text in quotes
abbrev is_away : Option State → Bool
is_away (Some state.Start) = false
is_away (Some state.Open) = false
is_away (Some state.Shut) = false
is_away o = true

stays_away : (s : State) (c : Class) → is_away (Some s) ≡ true → is_away (step s c) ≡ true
stays_away state.Start c e = cc
stays_away state.Open c e = cc
stays_away state.Shut c e = cc
stays_away state.Word class.Letter e = refl
stays_away state.Word class.Underscore e = refl
stays_away state.Word class.Digit e = refl
stays_away state.Whole class.Digit e = refl
stays_away state.Whole class.Point e = refl
stays_away state.Point class.Digit e = refl
stays_away state.OnePlace class.Digit e = refl
stays_away state.TwoPlaces class.Digit e = refl
stays_away state.ThreePlaces class.Digit e = refl
stays_away state.Less class.Equal e = refl
stays_away state.Less class.Greater e = refl
stays_away state.Greater class.Equal e = refl
stays_away state.Bang class.Equal e = refl
stays_away state.Bar class.Bar e = refl
stays_away s c e = refl

not_both : (s : State) → is_shut (Some s) ≡ true → is_away (Some s) ≡ true → ⊥
not_both state.Shut f g = cc
not_both s f g = cc

not_away : (bs : List ℕ) (o : Option State) → is_away o ≡ true → ends_in o bs ≡ Some form.Quoted → ⊥
not_away bs None e h = let none = sym (ends_nowhere bs) ∙ h in cc
not_away [] (Some s) e h = not_both s (shut (Some s) h) e
not_away (b ∷ bs) (Some s) e h = not_away bs (step s (class_of b)) (stays_away s (class_of b) e) h

opens : (c : Class) → (is_quote c ≡ true) ⊎ (is_away (begin c) ≡ true)
opens class.Quote = inl refl
opens class.Letter = inr refl
opens class.Underscore = inr refl
opens class.Digit = inr refl
opens class.Point = inr refl
opens class.Less = inr refl
opens class.Greater = inr refl
opens class.Bang = inr refl
opens class.Bar = inr refl
opens class.Equal = inr refl
opens (class.Mark kind) = inr refl
opens class.Other = inr refl

-- a token that is a text has a quote at each end
pub in_quotes : (bs : List ℕ) → token_of bs ≡ Some form.Quoted → (inside : List ℕ) × (bs ≡ 39 ∷ (inside ++ 39 ∷ []))
in_quotes [] h = cc
in_quotes (b ∷ []) h = absurd (no_both _ (shut (begin (class_of b)) h) (begins_open (class_of b)))
in_quotes (b ∷ d ∷ bs) h = go (opens (class_of b)) (step state.Start (class_of b)) refl h
  where
    go : (is_quote (class_of b) ≡ true) ⊎ (is_away (begin (class_of b)) ≡ true) → (o : Option State) → begin (class_of b) ≡ o → ends_in o (d ∷ bs) ≡ Some form.Quoted
        → (inside : List ℕ) × (b ∷ d ∷ bs ≡ 39 ∷ (inside ++ 39 ∷ []))
    go (inr away) o q i = absurd (not_away (d ∷ bs) o (sym (ap is_away q) ∙ away) i)
    go (inl quote) None q i = absurd (let none = sym (ends_nowhere (d ∷ bs)) ∙ i in cc)
    go (inl quote) (Some s) q i = let r = ends_so bs s d i in (r.0, ap (λ x. x ∷ d ∷ bs) (quote_byte b quote) ∙ ap (λ l. 39 ∷ l) r.1)
