-- What a notebook keeps, and what its calls know of a place and of a plan.
use Rattle.std.specs.Prelude.{◌≡◌, ◌≤◌, ◌<◌, ◌+◌, ◌-◌, ℕ, List, [], ◌∷◌, length, take, Option, Some, None, Result, Ok, Err, if◌then◌else◌}
use Rattle.cell_model.specs.declared.cell.Cell.{Cell}
use Rattle.edit_wire.specs.Answers.{Fails}
use Rattle.edit_wire.specs.declared.edit.Edit.{Edit}
use Rattle.edit_wire.specs.declared.edit.EditFault.{EditFault}
use Rattle.version_tree.specs.Versions.{cells_at}
use Rattle.version_tree.specs.Limits.{prefixes_of, new_prefixes, new_ids, fits}
use Rattle.version_tree.specs.Notebook.{plan_of}
use Rattle.version_tree.specs.declared.version.Version.{Version}
use Rattle.version_tree.specs.declared.place.Place.{Place}
use Rattle.version_tree.specs.declared.notebook.Plan.{Plan}

-- each version has at most 48 cells
abbrev pub AllSmall : List Version → Type 0
AllSmall [] = Unit {0}
AllSmall (v ∷ vs) = (length v.cells ≤ 48) × AllSmall vs

-- the count of prefixes is right, and the limits are kept
pub record Small (vs : List Version) (prefixes : ℕ) : Type 0 where
  pub count : prefixes ≡ prefixes_of vs
  pub few : prefixes ≤ 768
  pub versions : length vs ≤ 256
  pub cells : AllSmall vs

-- the last version shares so many first cells with an earlier one
pub record Shares (vs : List Version) (base count : ℕ) : Type 0 where
  pub earlier : base ≤ length vs - 1
  pub most : count ≤ length (cells_at vs base)
  pub fits : count ≤ length (cells_at vs (length vs))
  pub same : take count (cells_at vs base) ≡ take count (cells_at vs (length vs))

-- a place is within the version that it names
pub record InPlace (vs : List Version) (place : Place) : Type 0 where
  pub base : place.base ≤ length vs
  pub front : place.front ≤ length (cells_at vs place.base)
  pub after : place.after ≤ length (cells_at vs place.base)

-- these cells begin with the cells before a place
abbrev pub HasFront : List Version → Place → List Cell → Type 0
HasFront vs place cells = take place.front (cells_at vs place.base) ≡ take place.front cells

-- how many prefixes a version with these ids adds, if there is room for it
abbrev pub room_for : List Version → List ℕ → Option ℕ
room_for vs ids = if fits vs ids then Some (new_prefixes vs ids) else None

-- an edit goes to this place, and its version adds so many prefixes within the limits
pub record IsPlan (vs : List Version) (edit : Edit) (place : Place) (count : ℕ) : Type 0 where
  pub plan : plan_of vs edit ≡ Ok place
  pub inside : InPlace vs place
  pub added : count ≡ new_prefixes vs (new_ids vs edit place)
  pub room : length vs < 256
  pub short : length (new_ids vs edit place) ≤ 48
  pub few : prefixes_of vs + count ≤ 768

-- the plan of an edit, or its refusal
abbrev pub Plans : Result Plan EditFault → List Version → Edit → Type 0
Plans (Ok plan) vs edit = IsPlan vs edit plan.place plan.added
Plans (Err e) vs edit = Fails e (plan_of vs edit)
