-- What is known where marked values aren't.
use Rattle.std.specs.Prelude.{Bool, true, false, Option, Some, None, Ok, Err}
use Rattle.cell_errors.specs.Answers.{Answer}
use Rattle.cell_errors.specs.Seen.{Seen}

-- an answer, or none where it has a caveat
abbrev pub Known : Type 0 → Type 0
Known A = Option (Answer A)

-- what is known of the next, from what is known of the first
abbrev pub known_then : {A B : Type 0} → Known A → (A → Known B) → Known B
known_then None next = None
known_then (Some (Ok a)) next = next a
known_then (Some (Err e)) next = Some (Err e)

-- nothing where there is a mark
abbrev pub unless_marked : {A : Type 0} → Bool → A → Option A
unless_marked true a = None
unless_marked false a = Some a

-- what is known of what is seen
abbrev pub known : {A : Type 0} → Seen A → Known A
known s = unless_marked s.marked s.answer
