-- What a reader of lines has given of a stream.
use Rattle.std.specs.Prelude.{◌≡◌, ◌⊎◌, ◌<◌, ◌≤◌, ◌-◌, ◌++◌, ◌∷◌, [], ℕ, min, Bool, true, false, List, length, take, Option, Some, None, Result, IfOk}
use Rattle.std.specs.Io.KnownBytes.{Consumes, IsAtEnd, ReadConsumes}
use Rattle.outside_io.specs.Causes.{Rose}
use Rattle.line_reader.specs.Cut.{ended_lines, unended, lines_of, limit, kept_most}
use Rattle.line_reader.specs.declared.lines.Next.{Next}
use Rattle.line_reader.specs.declared.lines.Next.TheVariants as next

-- a reader: the bytes not cut yet, how many were taken, what is kept of the line in hand, and whether the end was seen
pub record State : Type 0 where
  pub unread : List ℕ
  pub total : ℕ
  pub pending : List ℕ
  pub ended : Bool

-- a reader before its first call
abbrev pub at_start : State
at_start = record { unread = []; total = 0; pending = []; ended = false }

-- these bytes were taken of the source, these of them cut, and these lines given of them
pub record Stands (first left : Option (List ℕ)) (taken seen : List ℕ) (lines : List (List ℕ)) (s : State) : Type 0 where
  pub consumed : Consumes first left taken
  pub count : length taken ≡ s.total
  pub cut : take limit taken ≡ seen ++ s.unread
  pub given : lines ≡ ended_lines seen
  pub pending : s.pending ≡ take kept_most (unended seen)

-- the end was seen after these bytes, and all of their lines were given
pub record Ended (first left : Option (List ℕ)) (taken : List ℕ) (lines : List (List ℕ)) : Type 0 where
  pub consumed : Consumes first left taken
  pub end : IsAtEnd left
  pub count : length taken ≤ limit
  pub given : lines ≡ lines_of taken

-- `Cuts` by whether the end was seen
abbrev pub CutsBy : Bool → Option (List ℕ) → Option (List ℕ) → List (List ℕ) → State → Type 0
CutsBy true first left lines s = (taken : List ℕ) × Ended first left taken lines
CutsBy false first left lines s = (taken seen : List ℕ) × Stands first left taken seen lines s

-- of a source that had `first`, and has `left` now, these lines were given
abbrev pub Cuts : Option (List ℕ) → Option (List ℕ) → List (List ℕ) → State → Type 0
Cuts first left lines s = CutsBy s.ended first left lines s

-- these lines are all that the bytes have: those that a line feed ended within the limit, and at the end of a stream within the limit the last one too
abbrev pub Covers : Option (List ℕ) → List ℕ → List (List ℕ) → Type 0
Covers left taken lines = (lines ≡ ended_lines (take limit taken)) ⊎ (IsAtEnd left × (length taken ≤ limit) × (lines ≡ lines_of taken))

-- these lines are the first of all that the bytes taken have
abbrev pub Heard : Option (List ℕ) → Option (List ℕ) → List (List ℕ) → Type 0
Heard first left lines = (taken : List ℕ) × (rest : List (List ℕ)) × Consumes first left taken × Covers left taken (lines ++ rest)

-- what comes after these lines: a line more and what is kept of it, or why there is none
abbrev pub Gets : Next → Option (List ℕ) → Option (List ℕ) → List (List ℕ) → State → Type 0
Gets (next.Line kept) first left lines s = (line : List ℕ) × (kept ≡ take kept_most line) × Cuts first left (lines ++ line ∷ []) s
Gets next.End first left lines s = (taken : List ℕ) × Ended first left taken lines
Gets next.ReadFault first left lines s = (taken : List ℕ) × Consumes first left taken × (length taken ≤ limit) × (lines ≡ ended_lines taken)
Gets next.StreamTooLong first left lines s = (taken : List ℕ) × Consumes first left taken × (limit < length taken) × (lines ≡ ended_lines (take limit taken))
Gets next.NoMemory first left lines s = Heard first left lines

-- whatever lines were given before, this comes after them
abbrev pub GetsNext : Next → Option (List ℕ) → Option (List ℕ) → State → State → Type 0
GetsNext result before after old new =
    (first : Option (List ℕ)) (lines : List (List ℕ)) → Cuts first before lines old → Gets result first after lines new

-- whether the source failed
abbrev pub Blames : Next → ℕ → ℕ → Type 0
Blames next.ReadFault before now = Rose before now
Blames (next.Line kept) before now = now ≡ before
Blames next.End before now = now ≡ before
Blames next.StreamTooLong before now = now ≡ before
Blames next.NoMemory before now = now ≡ before

-- ---- inner words

-- a line more, where there is one
abbrev pub CutsOn : Option (List ℕ) → Option (List ℕ) → Option (List ℕ) → List (List ℕ) → State → Type 0
CutsOn None first left lines s = Cuts first left lines s
CutsOn (Some kept) first left lines s = (line : List ℕ) × (kept ≡ take kept_most line) × Cuts first left (lines ++ line ∷ []) s

-- whatever lines were given before, a line more where there is one
abbrev pub CutsNext : Option (List ℕ) → State → State → Type 0
CutsNext kept old new =
    (first left : Option (List ℕ)) (lines : List (List ℕ)) → Cuts first left lines old → CutsOn kept first left lines new

-- whatever lines were given before, no other was
abbrev pub KeepsOn : Option (List ℕ) → Option (List ℕ) → State → State → Type 0
KeepsOn before after old new =
    (first : Option (List ℕ)) (lines : List (List ℕ)) → Cuts first before lines old → Cuts first after lines new

-- the bytes of a read, up to the limit, are those to be cut
abbrev pub Refills : {E : Type 0} → Result ℕ E → Option (List ℕ) → Option (List ℕ) → State → State → Type 0
Refills result before after old new =
    (buffer : List ℕ) × ReadConsumes before after result buffer × (0 < length buffer)
    × IfOk result (λ n. (n ≤ length buffer) × (new.unread ≡ take (min n (limit - old.total)) buffer))
