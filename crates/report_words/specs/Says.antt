-- What the end of a session says of the bytes that were taken and written, and of the counts of faults.
use Rattle.std.specs.Prelude.{◌≡◌, ◌⊎◌, ◌<◌, ◌≤◌, ◌++◌, ◌∷◌, [], ℕ, List, length, take, Option, Some, None, IfSome}
use Rattle.std.specs.Io.KnownBytes.{Appends, Consumes, IsAtEnd}
use Rattle.outside_io.specs.Causes.{Rose}
use Rattle.outside_io.specs.Texts.{AppendsFront}
use Rattle.line_reader.specs.Cut.{ended_lines, lines_of, limit}
use Rattle.line_reader.specs.Reading.{Ended, Heard}
use Rattle.dataset_types.specs.declared.picks.Pick.{Pick}
use Rattle.version_tree.specs.declared.told.Told.{Told}
use Rattle.report_words.specs.Reports.{report_of, book_of, lines_in, said, IsStarvedText}
use Rattle.report_words.specs.declared.status.SessionStatus.{SessionStatus}
use Rattle.report_words.specs.declared.status.SessionStatus.TheVariants as status

-- some first bytes of the report of these lines
abbrev pub Wrote : List Pick → Option (List ℕ) → Option (List ℕ) → List (List ℕ × Told) → Type 0
Wrote picks start written hs = AppendsFront start written (report_of picks hs)

-- the report of all but the last of these lines, and some first bytes of a starved block in the place of the last one's block
abbrev pub WroteStarved : List Pick → Option (List ℕ) → Option (List ℕ) → List (List ℕ × Told) → Type 0
WroteStarved picks start written hs =
    (front : List (List ℕ × Told)) × (h : List ℕ × Told) × (text : List ℕ) × (hs ≡ front ++ h ∷ [])
    × IsStarvedText (book_of picks front) (said h.0) h.1 text × AppendsFront start written (report_of picks front ++ text)

-- What was taken of the source and written. The lines are those that are covered, each with what the shelf told.
abbrev pub Says : SessionStatus → List Pick → Option (List ℕ) → Option (List ℕ) → Option (List ℕ) → Option (List ℕ) → List (List ℕ × Told) → Type 0
Says status.Done picks first left start written hs =
    (taken : List ℕ) × Ended first left taken (lines_in hs) × Appends start written (report_of picks hs)
Says status.ReadFault picks first left start written hs =
    (taken : List ℕ) × Consumes first left taken × (length taken ≤ limit) × (lines_in hs ≡ ended_lines taken)
    × Appends start written (report_of picks hs)
Says status.StreamTooLong picks first left start written hs =
    (taken : List ℕ) × Consumes first left taken × (limit < length taken) × (lines_in hs ≡ ended_lines (take limit taken))
    × Appends start written (report_of picks hs)
Says status.WriteFault picks first left start written hs = Heard first left (lines_in hs) × Wrote picks start written hs
Says status.NoMemory picks first left start written hs =
    Heard first left (lines_in hs) × (Wrote picks start written hs ⊎ WroteStarved picks start written hs)

-- Whose count of faults rose, that of the source or that of the sink. The other count stays; of the sink's, want of memory says nothing.
abbrev pub Blames : SessionStatus → ℕ → ℕ → ℕ → ℕ → Type 0
Blames status.Done source source' sink sink' = (source' ≡ source) × (sink' ≡ sink)
Blames status.ReadFault source source' sink sink' = Rose source source' × (sink' ≡ sink)
Blames status.WriteFault source source' sink sink' = (source' ≡ source) × Rose sink sink'
Blames status.NoMemory source source' sink sink' = source' ≡ source
Blames status.StreamTooLong source source' sink sink' = (source' ≡ source) × (sink' ≡ sink)

-- Without a fault, and within the limit, a session ends with the whole report, or for want of memory.
abbrev pub Completes : SessionStatus → Option (List ℕ) → ℕ → ℕ → ℕ → ℕ → Type 0
Completes s first source source' sink sink' =
    ¬ (Rose source source') → ¬ (Rose sink sink') → (bytes : List ℕ) → first ≡ Some bytes → length bytes ≤ limit
    → (s ≡ status.Done) ⊎ (s ≡ status.NoMemory)
