-- The files of a shelf, each a name and its bytes.
use Rattle.std.specs.Prelude.{ℕ, List, [], ◌∷◌, length, Option, Some, None, nat_le, if◌then◌else◌}
use Rattle.std.specs.Str.{bytes_eq}
use Rattle.outside_io.specs.declared.shelf.Fetched.{Fetched}
use Rattle.outside_io.specs.declared.shelf.Fetched.TheVariants as fetched

-- the bytes of the first file of a name
abbrev pub file_of : List (List ℕ × List ℕ) → List ℕ → Option (List ℕ)
file_of [] name = None
file_of (file ∷ files) name = if bytes_eq file.0 name then Some file.1 else file_of files name

-- what a shelf says of a file that has these bytes, or isn't there
abbrev pub within_limit : Option (List ℕ) → ℕ → Fetched
within_limit None limit = fetched.Missing
within_limit (Some bytes) limit =
    if nat_le (length bytes) limit then fetched.Bytes bytes else fetched.TooLong

-- what a shelf of these files answers for a name
abbrev pub answer_for : List (List ℕ × List ℕ) → List ℕ → ℕ → Fetched
answer_for files name limit = within_limit (file_of files name) limit
