-- Where an edit goes, and the refusals NoBranch, NoVersion, NoCell and BranchTaken.
use Rattle.std.specs.Prelude.{ℕ, ◌+◌, ◌-◌, ◌&&◌, List, ◌++◌, length, take, drop, Bool, true, false, nat_le, if◌then◌else◌, Result, Ok, Err}
use Rattle.cell_model.specs.declared.refusal.EditRefusal.{EditRefusal}
use Rattle.cell_model.specs.declared.refusal.EditRefusal.TheVariants as refusal
use Rattle.edit_wire.specs.declared.edit.Edit.{Edit}
use Rattle.edit_wire.specs.declared.edit.EditKind.{EditKind}
use Rattle.edit_wire.specs.declared.edit.EditKind.TheVariants as kind
use Rattle.version_tree.specs.Versions.{head_of, count_at}
use Rattle.version_tree.specs.declared.version.Version.{Version}
use Rattle.version_tree.specs.declared.head.Head.{Head}
use Rattle.version_tree.specs.declared.head.Head.TheVariants as head
use Rattle.version_tree.specs.declared.place.Place.{Place}

-- what comes after an answer, unless it is a refusal
abbrev pub on_ok : {X Y : Type 0} → (X → Result Y EditRefusal) → Result X EditRefusal → Result Y EditRefusal
on_ok f (Ok x) = f x
on_ok f (Err e) = Err e

-- the number of the version that is a head, 0 where the branch has none
abbrev pub base_on : Head → Result ℕ EditRefusal
base_on head.NoBranch = Err refusal.NoBranch
base_on head.Empty = Ok 0
base_on (head.Version n) = Ok n

-- the number of a branch's last version, 0 where it has none
abbrev pub base_of : List Version → List ℕ → Result ℕ EditRefusal
base_of vs branch = base_on (head_of vs branch)

-- after all cells of a version
abbrev pub at_end : List Version → ℕ → Place
at_end vs n = record { base = n; front = count_at vs n; after = count_at vs n }

-- before the cell at a position that is at most so far beyond the last, with so many cells taken out
abbrev pub placed : List Version → ℕ → ℕ → ℕ → ℕ → Result Place EditRefusal
placed vs n at beyond removed =
    if nat_le 1 at && nat_le at (count_at vs n + beyond)
    then Ok (record { base = n; front = at - 1; after = at - 1 + removed })
    else Err refusal.NoCell

-- whether a head is that of no branch
abbrev pub is_free : Head → Bool
is_free head.NoBranch = true
is_free head.Empty = false
is_free (head.Version n) = false

-- a new branch with the cells of a version
abbrev pub branched : List Version → List ℕ → ℕ → Result Place EditRefusal
branched vs branch from =
    if nat_le 1 from && nat_le from (length vs)
    then (if is_free (head_of vs branch) then Ok (at_end vs from) else Err refusal.BranchTaken)
    else Err refusal.NoVersion

-- where an edit of this kind goes on a branch
abbrev pub place_by : List Version → List ℕ → EditKind → Result Place EditRefusal
place_by vs branch (kind.Append c) = on_ok (λ n. Ok (at_end vs n)) (base_of vs branch)
place_by vs branch (kind.Insert at c) = on_ok (λ n. placed vs n at 1 0) (base_of vs branch)
place_by vs branch (kind.Update at c) = on_ok (λ n. placed vs n at 0 1) (base_of vs branch)
place_by vs branch (kind.Delete at) = on_ok (λ n. placed vs n at 0 1) (base_of vs branch)
place_by vs branch (kind.Branch from) = branched vs branch from

-- where an edit goes, or why it goes nowhere
abbrev pub place_of : List Version → Edit → Result Place EditRefusal
place_of vs edit = place_by vs edit.branch edit.kind

-- a list with something else at a place of it
abbrev pub between : {X : Type 0} → Place → List X → List X → List X
between place new xs = take place.front xs ++ new ++ drop place.after xs
