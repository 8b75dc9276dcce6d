-- Answers with a mark: whether something with a caveat was looked at on the way.
use Rattle.std.specs.Prelude.{Bool, true, false, ◌||◌, Ok, Err}
use Rattle.cell_errors.specs.Answers.{Answer}

-- an answer, and its mark, which stands beside an error too
pub record Seen (A : Type 0) : Type 0 where
  pub marked : Bool
  pub answer : Answer A

-- an answer for which nothing with a caveat was looked at
abbrev pub unmarked : {A : Type 0} → Answer A → Seen A
unmarked a = record { marked = false; answer = a }

-- what is seen after a look at something with this mark
abbrev pub after : {A : Type 0} → Bool → Seen A → Seen A
after m s = record { marked = m || s.marked; answer = s.answer }

-- what is seen where an answer with this mark comes first
abbrev pub go_on : {A B : Type 0} → Bool → Answer A → (A → Seen B) → Seen B
go_on m (Ok a) next = after m (next a)
go_on m (Err e) next = record { marked = m; answer = Err e }

-- a look at the first, and then at the next, from the first one's value
abbrev pub seen_then : {A B : Type 0} → Seen A → (A → Seen B) → Seen B
seen_then s next = go_on s.marked s.answer next
