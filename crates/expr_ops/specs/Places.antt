-- What a call leaves in a place that it was lent.
use Rattle.std.specs.Prelude.{Result, Ok, Err}

-- the call's answer, as if it gave the value that it left in the place
abbrev pub placed : {A E : Type 0} → Result (Unit {0}) E → A → Result A E
placed (Ok done) value = Ok value
placed (Err e) value = Err e
