-- Small objects over memory, worked by hand.
use Rattle.std.proofs.Common.{◌≡◌, ◌∷◌, [], ℕ, List, true, false, refl}
use Rattle.std.specs.Prelude.{codes}
use Rattle.outside_io.specs.Files.{answer_for}
use Rattle.outside_io.specs.Memory.{SinkState, SourceState, fitting, is_listed, joined, left_from, read_fails, write_fails}
use Rattle.outside_io.specs.declared.shelf.Fetched.TheVariants as fetched

-- two files, one of them twice
abbrev files : List (List ℕ × List ℕ)
files = (codes "a", codes "four") ∷ (codes "b", []) ∷ (codes "a", codes "later") ∷ []

-- exactly at the limit
fits_at_the_limit : answer_for files (codes "a") 4 ≡ fetched.Bytes (codes "four")
fits_at_the_limit = refl

-- one byte more than the limit
too_long_past_the_limit : answer_for files (codes "a") 3 ≡ fetched.TooLong
too_long_past_the_limit = refl

-- an empty file is there
empty_file_is_there : answer_for files (codes "b") 0 ≡ fetched.Bytes []
empty_file_is_there = refl

-- another name is not
other_name_is_missing : answer_for files (codes "c") 9 ≡ fetched.Missing
other_name_is_missing = refl

-- pieces make one stream, and empty ones add nothing
pieces_join : joined (codes "ab" ∷ [] ∷ codes "c" ∷ []) ≡ codes "abc"
pieces_join = refl

-- past `a` of the first piece
rest_of_pieces : left_from (codes "ab" ∷ codes "c" ∷ []) 0 1 ≡ codes "bc"
rest_of_pieces = refl

-- the second call is to fail
second_is_listed : is_listed (2 ∷ []) 1 ≡ true
second_is_listed = refl

-- the first is not
first_is_not_listed : is_listed (2 ∷ []) 0 ≡ false
first_is_not_listed = refl

-- a broken source with nothing left
abbrev broken : SourceState
broken = record { left = []; fails = []; broken = true; calls = 3; faults = 0 }

-- a broken source fails at its end
broken_end_fails : read_fails broken ≡ true
broken_end_fails = refl

-- but not before it
not_before_the_end : read_fails (record broken { left = codes "a" }) ≡ false
not_before_the_end = refl

-- a sink with room for ten bytes, of which eight are taken
abbrev nearly_full : SinkState
nearly_full = record { written = codes "12345678"; room = 10; fails = []; calls = 1; faults = 0 }

-- two bytes of three fit
two_of_three_fit : fitting nearly_full (codes "abc") ≡ 2
two_of_three_fit = refl

-- which is no fault
part_is_no_fault : write_fails nearly_full (codes "abc") ≡ false
part_is_no_fault = refl
