-- The limits of a notebook, and the refusal TooMany.
use Rattle.std.specs.Prelude.{ℕ, suc, ◌+◌, ◌-◌, ◌==◌, ◌&&◌, max, List, [], ◌∷◌, ◌++◌, map, length, Bool, nat_le, nat_lt, if◌then◌else◌, Option, Some, None, is_some, Result, Ok, Err}
use Rattle.cell_model.specs.declared.cell.Cell.{Cell}
use Rattle.cell_model.specs.declared.refusal.EditRefusal.{EditRefusal}
use Rattle.cell_model.specs.declared.refusal.EditRefusal.TheVariants as refusal
use Rattle.edit_wire.specs.declared.edit.Edit.{Edit}
use Rattle.edit_wire.specs.declared.edit.EditCell.{EditCell}
use Rattle.edit_wire.specs.declared.edit.EditKind.{EditKind}
use Rattle.edit_wire.specs.declared.edit.EditKind.TheVariants as kind
use Rattle.version_tree.specs.Versions.{cells_at}
use Rattle.version_tree.specs.Places.{between}
use Rattle.version_tree.specs.declared.version.Version.{Version}
use Rattle.version_tree.specs.declared.place.Place.{Place}

-- the ids of cells, in order
abbrev pub ids_of : List Cell → List ℕ
ids_of cells = map (λ c. c.id) cells

-- how many first ids two lists share
abbrev pub shared : List ℕ → List ℕ → ℕ
shared [] ys = 0
shared (x ∷ xs) [] = 0
shared (x ∷ xs) (y ∷ ys) = if x == y then suc (shared xs ys) else 0

-- how many first ids a list shares with one of the versions, at most
abbrev pub longest_shared : List Version → List ℕ → ℕ
longest_shared [] ids = 0
longest_shared (v ∷ vs) ids = max (shared (ids_of v.cells) ids) (longest_shared vs ids)

-- how many nonempty prefixes a list has that none of the versions has
abbrev pub new_prefixes : List Version → List ℕ → ℕ
new_prefixes vs ids = length ids - longest_shared vs ids

-- how many distinct prefixes the later versions add to those of the older
abbrev pub prefixes_after : List Version → List Version → ℕ
prefixes_after older [] = 0
prefixes_after older (v ∷ vs) = new_prefixes older (ids_of v.cells) + prefixes_after (older ++ v ∷ []) vs

-- how many distinct nonempty prefixes the versions have
abbrev pub prefixes_of : List Version → ℕ
prefixes_of vs = prefixes_after [] vs

-- the cell that an edit brings
abbrev pub cell_in : EditKind → Option EditCell
cell_in (kind.Append c) = Some c
cell_in (kind.Insert at c) = Some c
cell_in (kind.Update at c) = Some c
cell_in (kind.Delete at) = None
cell_in (kind.Branch from) = None

-- whether an edit brings a cell
abbrev pub brings_cell : EditKind → Bool
brings_cell k = is_some (cell_in k)

-- the ids of the version that an edit makes, whose new cell has the version's number as its id
abbrev pub new_ids : List Version → Edit → Place → List ℕ
new_ids vs edit place =
    between place (if brings_cell edit.kind then (length vs + 1) ∷ [] else []) (ids_of (cells_at vs place.base))

-- whether there is room for one version more, with these ids
abbrev pub fits : List Version → List ℕ → Bool
fits vs ids =
    nat_lt (length vs) 256 && nat_le (length ids) 48 && nat_le (prefixes_of vs + new_prefixes vs ids) 768

-- the place of an edit, if there is room for its version
abbrev pub within : List Version → Edit → Place → Result Place EditRefusal
within vs edit place = if fits vs (new_ids vs edit place) then Ok place else Err refusal.TooMany
