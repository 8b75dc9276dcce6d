-- Streams and their lines, cut by hand.
use Rattle.std.proofs.Common.{◌≡◌, ◌∷◌, [], refl}
use Rattle.std.specs.Prelude.{codes}
use Rattle.line_reader.specs.Cut.{ended_lines, unended, lines_of}

-- `ab` LF `c` LF has two lines that are ended
two_are_ended : ended_lines (97 ∷ 98 ∷ 10 ∷ 99 ∷ 10 ∷ []) ≡ codes "ab" ∷ codes "c" ∷ []
two_are_ended = refl

-- `ab` LF `c` has one, and `c` is left
one_is_ended : ended_lines (97 ∷ 98 ∷ 10 ∷ 99 ∷ []) ≡ codes "ab" ∷ []
one_is_ended = refl

-- `c` is what `ab` LF `c` leaves
last_piece : unended (97 ∷ 98 ∷ 10 ∷ 99 ∷ []) ≡ codes "c"
last_piece = refl

-- a line feed at the end leaves nothing
no_last_piece : unended (97 ∷ 98 ∷ 10 ∷ []) ≡ []
no_last_piece = refl

-- a last piece that isn't empty is a line
last_piece_is_a_line : lines_of (97 ∷ 98 ∷ 10 ∷ 99 ∷ []) ≡ codes "ab" ∷ codes "c" ∷ []
last_piece_is_a_line = refl

-- an empty one is none
no_line_after_the_last_feed : lines_of (97 ∷ 98 ∷ 10 ∷ []) ≡ codes "ab" ∷ []
no_line_after_the_last_feed = refl

-- LF LF has two empty lines
empty_lines_count : lines_of (10 ∷ 10 ∷ []) ≡ [] ∷ [] ∷ []
empty_lines_count = refl

-- a CR stays in its line
carriage_return_stays : lines_of (97 ∷ 13 ∷ 10 ∷ []) ≡ (97 ∷ 13 ∷ []) ∷ []
carriage_return_stays = refl

-- an empty stream has no line
nothing_has_no_line : lines_of [] ≡ []
nothing_has_no_line = refl
