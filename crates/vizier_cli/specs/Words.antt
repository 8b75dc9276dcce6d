-- The words of a command line.
use Rattle.std.specs.Prelude.{ℕ, List, [], ◌∷◌, ◌&&◌, ◌==◌, not, length, codes, nat_le, Bool, false, if◌then◌else◌, Option, Some, None, option_map}
use Rattle.std.specs.Str.{bytes_eq}

-- what the program is told to do
pub data Command : Type 0 where
  -- write the report of the stream, its cells run one after another, under the picks of a file if one is named
  Serial : Option (List ℕ) → Command

-- a file's name of 1 to 255 bytes that doesn't begin with `-`
abbrev pub is_file : List ℕ → Bool
is_file [] = false
is_file (b ∷ bs) = not (b == 45) && nat_le (length (b ∷ bs)) 255

-- the picks file of the options, if they are options: `--picks` and a file, at most once
abbrev pub picks_option : List (List ℕ) → Option (Option (List ℕ))
picks_option [] = Some None
picks_option (option ∷ []) = None
picks_option (option ∷ file ∷ []) =
    if bytes_eq option (codes "--picks") && is_file file then Some (Some file) else None
picks_option (option ∷ file ∷ more ∷ words) = None

-- the picks file of the words of `serial`, if they are these
abbrev pub serial_words : List (List ℕ) → Option (Option (List ℕ))
serial_words [] = None
serial_words (word ∷ options) = if bytes_eq word (codes "serial") then picks_option options else None

-- the command that the words are, if they are one
abbrev pub command_of : List (List ℕ) → Option Command
command_of words = option_map Serial (serial_words words)
