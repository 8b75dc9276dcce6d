-- Versions, oldest first. A version's number is its place, from 1 on.
use Rattle.std.specs.Prelude.{◌≤◌, ℕ, zero, suc, ◌+◌, List, [], ◌∷◌, length, codes, if◌then◌else◌, Option, None, option_map, unwrap_or}
use Rattle.std.specs.List.{slice_get}
use Rattle.std.specs.Str.{bytes_eq}
use Rattle.cell_model.specs.declared.cell.Cell.{Cell}
use Rattle.version_tree.specs.declared.version.Version.{Version}
use Rattle.version_tree.specs.declared.head.Head.{Head}
use Rattle.version_tree.specs.declared.head.Head.TheVariants as head

-- the branch that is there from the start
abbrev pub main : List ℕ
main = codes "main"

-- the head of a branch that has no version
abbrev pub none_on : List ℕ → Head
none_on branch = if bytes_eq branch main then head.Empty else head.NoBranch

-- the first of two heads if it is a version, else the second
abbrev pub or_head : Head → Head → Head
or_head (head.Version n) other = head.Version n
or_head head.NoBranch other = other
or_head head.Empty other = other

-- the last of these versions on a branch, where the first of them has this number
abbrev pub last_on : ℕ → List Version → List ℕ → Head
last_on n [] branch = head.NoBranch
last_on n (v ∷ vs) branch =
    or_head (last_on (n + 1) vs branch) (if bytes_eq v.branch branch then head.Version n else head.NoBranch)

-- the head of a branch
abbrev pub head_of : List Version → List ℕ → Head
head_of vs branch = or_head (last_on 1 vs branch) (none_on branch)

-- the version with a number, if there is one
abbrev pub version_of : List Version → ℕ → Option Version
version_of vs zero = None
version_of vs (suc i) = slice_get vs i

-- the branch of the version with a number
abbrev pub branch_of : List Version → ℕ → Option (List ℕ)
branch_of vs n = option_map (λ v. v.branch) (version_of vs n)

-- the cells of the version with a number
abbrev pub cells_of : List Version → ℕ → Option (List Cell)
cells_of vs n = option_map (λ v. v.cells) (version_of vs n)

-- the cells of the version with a number, none where there is no such version
abbrev pub cells_at : List Version → ℕ → List Cell
cells_at vs n = unwrap_or (cells_of vs n) []

-- how many cells the version with a number has
abbrev pub count_at : List Version → ℕ → ℕ
count_at vs n = length (cells_at vs n)

-- a head that is a version is one of these
abbrev pub IsHeadOf : List Version → Head → Type 0
IsHeadOf vs head.NoBranch = Unit {0}
IsHeadOf vs head.Empty = Unit {0}
IsHeadOf vs (head.Version n) = n ≤ length vs
