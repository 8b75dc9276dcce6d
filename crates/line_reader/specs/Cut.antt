-- A stream of bytes as lines.
use Rattle.std.specs.Prelude.{ℕ, ◌-◌, ◌==◌, List, [], ◌∷◌, ◌++◌, take, length, if◌then◌else◌}

-- the lines with a byte more before the first of them
abbrev pub onto_first : ℕ → List (List ℕ) → List (List ℕ)
onto_first b [] = []
onto_first b (line ∷ lines) = (b ∷ line) ∷ lines

-- the lines that a line feed ends, each without it
abbrev pub ended_lines : List ℕ → List (List ℕ)
ended_lines [] = []
ended_lines (b ∷ bs) = if b == 10 then [] ∷ ended_lines bs else onto_first b (ended_lines bs)

-- the last piece with a byte more before it, where no line comes between
abbrev pub onto_rest : ℕ → List (List ℕ) → List ℕ → List ℕ
onto_rest b [] rest = b ∷ rest
onto_rest b (line ∷ lines) rest = rest

-- the bytes after the last line feed
abbrev pub unended : List ℕ → List ℕ
unended [] = []
unended (b ∷ bs) = if b == 10 then unended bs else onto_rest b (ended_lines bs) (unended bs)

-- the line that a last piece is, unless it is empty
abbrev pub last_line : List ℕ → List (List ℕ)
last_line [] = []
last_line (b ∷ bs) = (b ∷ bs) ∷ []

-- each line of a stream, a last piece without a line feed too
abbrev pub lines_of : List ℕ → List (List ℕ)
lines_of bytes = ended_lines bytes ++ last_line (unended bytes)

-- the bytes of a stream, at most
abbrev pub limit : ℕ
limit = 16777216

-- the bytes that are kept of a line: one more than it may have tells that it is too long
abbrev pub kept_most : ℕ
kept_most = 65537

-- what is kept of a line that has these bytes kept, and goes on with a piece
abbrev pub kept_with : List ℕ → List ℕ → List ℕ
kept_with kept piece = kept ++ take (kept_most - length kept) piece
