-- What a meaning gives that may be an error of a cell, and what a call answers of it.
use Rattle.std.specs.Prelude.{◌≡◌, Result, Ok, Err, List, [], ◌∷◌}
use Rattle.cell_errors.specs.declared.fault.CellError.{CellError}
use Rattle.cell_errors.specs.declared.fault.EvalFault.{EvalFault}
use Rattle.cell_errors.specs.declared.fault.EvalFault.TheVariants as fault

-- a value, or the error of a cell
abbrev pub Answer : Type 0 → Type 0
Answer A = Result A CellError

-- the next answer, from the value of the first, or the first one's error
abbrev pub and_then : {A B : Type 0} → Answer A → (A → Answer B) → Answer B
and_then (Ok a) next = next a
and_then (Err e) next = Err e

-- the values of all in order, or the first error
abbrev pub collect : {A B : Type 0} → (A → Answer B) → List A → Answer (List B)
collect f [] = Ok []
collect f (x ∷ xs) = and_then (f x) (λ y. and_then (collect f xs) (λ ys. Ok (y ∷ ys)))

-- what is given where a call fails: that error, or anything where memory ran out
abbrev pub Fails : {A : Type 0} → EvalFault → Answer A → Type 0
Fails (fault.Error e) given = given ≡ Err e
Fails fault.NoMemory given = Unit {0}

-- what a call answers is what the definition gives, unless memory ran out
abbrev pub Gives : {A : Type 0} → Result A EvalFault → Answer A → Type 0
Gives (Ok value) given = given ≡ Ok value
Gives (Err f) given = Fails f given
