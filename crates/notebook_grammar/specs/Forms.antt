-- The forms of tokens: a token is a way through the states, from the start to a state that has a form.
use Rattle.std.specs.Prelude.{ℕ, nat_le, ◌==◌, ◌&&◌, ◌||◌, Bool, if◌then◌else◌, Option, Some, None}
use Rattle.notebook_grammar.specs.declared.kind.Kind.TheVariants as k
use Rattle.notebook_grammar.specs.declared.scan.Form.{Form}
use Rattle.notebook_grammar.specs.declared.scan.Form.TheVariants as form
use Rattle.notebook_grammar.specs.declared.scan.Class.{Class}
use Rattle.notebook_grammar.specs.declared.scan.Class.TheVariants as class
use Rattle.notebook_grammar.specs.declared.scan.State.{State}
use Rattle.notebook_grammar.specs.declared.scan.State.TheVariants as state
use Rattle.notebook_grammar.specs.declared.scan.Found.{Found}

-- whether the byte is in the range
abbrev pub between : ℕ → ℕ → ℕ → Bool
between low high b = nat_le low b && nat_le b high

-- letters; `_`; digits; then ' . < > ! | = and + - * / % , ( ) ; { }
abbrev pub class_of : ℕ → Class
class_of b =
    if between 97 122 b || between 65 90 b then class.Letter
    else if b == 95 then class.Underscore
    else if between 48 57 b then class.Digit
    else if b == 39 then class.Quote
    else if b == 46 then class.Point
    else if b == 60 then class.Less
    else if b == 62 then class.Greater
    else if b == 33 then class.Bang
    else if b == 124 then class.Bar
    else if b == 61 then class.Equal
    else if b == 43 then class.Mark k.Plus
    else if b == 45 then class.Mark k.Minus
    else if b == 42 then class.Mark k.Star
    else if b == 47 then class.Mark k.Slash
    else if b == 37 then class.Mark k.Percent
    else if b == 44 then class.Mark k.Comma
    else if b == 40 then class.Mark k.Open
    else if b == 41 then class.Mark k.Close
    else if b == 59 then class.Mark k.Semicolon
    else if b == 123 then class.Mark k.OpenBrace
    else if b == 125 then class.Mark k.CloseBrace
    else class.Other

-- the state after the first byte, if a token begins so
abbrev pub begin : Class → Option State
begin class.Letter = Some state.Word
begin class.Digit = Some state.Whole
begin class.Quote = Some state.Open
begin class.Point = Some (state.Mark k.Point)
begin class.Less = Some state.Less
begin class.Greater = Some state.Greater
begin class.Bang = Some state.Bang
begin class.Bar = Some state.Bar
begin class.Equal = Some (state.Mark k.Equal)
begin (class.Mark kind) = Some (state.Mark kind)
begin c = None

-- the state after one byte more, if a token goes on so
abbrev pub step : State → Class → Option State
step state.Start c = begin c
step state.Word class.Letter = Some state.Word
step state.Word class.Underscore = Some state.Word
step state.Word class.Digit = Some state.Word
step state.Whole class.Digit = Some state.Whole
step state.Whole class.Point = Some state.Point
step state.Point class.Digit = Some state.OnePlace
step state.OnePlace class.Digit = Some state.TwoPlaces
step state.TwoPlaces class.Digit = Some state.ThreePlaces
step state.ThreePlaces class.Digit = Some state.FourPlaces
step state.Open class.Quote = Some state.Shut
step state.Open c = Some state.Open
step state.Shut class.Quote = Some state.Open
step state.Less class.Equal = Some (state.Mark k.AtMost)
step state.Less class.Greater = Some (state.Mark k.NotEqual)
step state.Greater class.Equal = Some (state.Mark k.AtLeast)
step state.Bang class.Equal = Some (state.Mark k.NotEqual)
step state.Bar class.Bar = Some (state.Mark k.Bars)
step s c = None

-- the form of a token that ends in the state
abbrev pub form_of : State → Option Form
form_of state.Word = Some form.Word
form_of state.Whole = Some form.Whole
form_of state.OnePlace = Some form.Decimal
form_of state.TwoPlaces = Some form.Decimal
form_of state.ThreePlaces = Some form.Decimal
form_of state.FourPlaces = Some form.Decimal
form_of state.Shut = Some form.Quoted
form_of state.Less = Some (form.Mark k.Less)
form_of state.Greater = Some (form.Mark k.Greater)
form_of (state.Mark kind) = Some (form.Mark kind)
form_of s = None

-- the longer of two finds, where the first form is that of this length
abbrev pub better : Option Form → Option Found → ℕ → Option Found
better None best n = best
better (Some f) best n = Some (record { form = f; length = n })
