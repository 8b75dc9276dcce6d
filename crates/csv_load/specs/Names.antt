-- The names of columns, from the fields of a header (docs/FORMATS.md, "Loaded files").
use Rattle.std.specs.Prelude.{ℕ, ◌==◌, ◌||◌, not, if◌then◌else◌, List, [], ◌∷◌, ◌++◌, length, map, take, Bool, true, false, find, unwrap_or, decimal}
use Rattle.std.specs.List.{list_any, range_with_len}
use Rattle.std.specs.Str.{bytes_eq}
use Rattle.std.specs.Char.{to_ascii_lowercase}
use Rattle.value_types.specs.Names.{is_letter, is_digit}
use Rattle.csv_load.specs.Ends.{without_end}

-- the byte `_`
abbrev pub is_low_line : ℕ → Bool
is_low_line b = b == 95

-- an ASCII letter or a digit
abbrev pub is_kept : ℕ → Bool
is_kept b = is_letter (to_ascii_lowercase b) || is_digit b

-- whether a byte stands in front that isn't kept
abbrev pub begins_apart : List ℕ → Bool
begins_apart [] = false
begins_apart (b ∷ bs) = not (is_kept b)

-- with a `_` in front where it stands apart, if anything is left
abbrev pub linked : Bool → List ℕ → List ℕ
linked true (b ∷ bs) = 95 ∷ b ∷ bs
linked true [] = []
linked false rest = rest

-- the letters in lower case and the digits, with one `_` where other bytes stand between two of them
abbrev pub cleaned : List ℕ → List ℕ
cleaned [] = []
cleaned (b ∷ bs) =
    if is_kept b then to_ascii_lowercase b ∷ linked (begins_apart bs) (cleaned bs)
    else cleaned bs

-- at most 24 bytes of it, without `_` at the end
abbrev pub cut : List ℕ → List ℕ
cut text = without_end is_low_line (take 24 text)

-- `c` where nothing is left, and `c_` before a digit
abbrev pub begun : List ℕ → List ℕ
begun [] = 99 ∷ []
begun (b ∷ bs) = if is_digit b then 99 ∷ 95 ∷ b ∷ bs else b ∷ bs

-- the name that a field of the header asks for
abbrev pub base_name : List ℕ → List ℕ
base_name field = begun (cut (cleaned field))

-- a name with `_` and a number after it
abbrev pub with_number : List ℕ → ℕ → List ℕ
with_number name k = name ++ 95 ∷ decimal k

-- whether no name that is taken is this one
abbrev pub is_free : List (List ℕ) → List ℕ → Bool
is_free taken name = not (list_any (bytes_eq name) taken)

-- the name, and then the name with each of so many numbers, from 2 on
abbrev pub candidates : List ℕ → ℕ → List (List ℕ)
candidates name n = name ∷ map (with_number name) (range_with_len 2 n)

-- the first candidate that isn't taken. Among one more than there are names taken there is one
abbrev pub free_name : List (List ℕ) → List ℕ → List ℕ
free_name taken name = unwrap_or (find (is_free taken) (candidates name (length taken))) name

-- the names of these fields, in order, after those that are taken
abbrev pub names_after : List (List ℕ) → List (List ℕ) → List (List ℕ)
names_after taken [] = []
names_after taken (f ∷ fs) =
    free_name taken (base_name f) ∷ names_after (taken ++ free_name taken (base_name f) ∷ []) fs

-- the names of a header's columns
abbrev pub names_of : List (List ℕ) → List (List ℕ)
names_of header = names_after [] header
