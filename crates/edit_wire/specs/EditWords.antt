-- The words that the field `edit` has in an edit.
use Rattle.std.specs.Prelude.{ℕ, ◌||◌, List, Bool, codes}
use Rattle.std.specs.Str.{bytes_eq}

-- a word of the field `edit` that asks for something
abbrev pub is_edit_word : List ℕ → Bool
is_edit_word word =
    bytes_eq word (codes "append") || (bytes_eq word (codes "insert") || (bytes_eq word (codes "update")
    || (bytes_eq word (codes "delete") || bytes_eq word (codes "branch"))))
