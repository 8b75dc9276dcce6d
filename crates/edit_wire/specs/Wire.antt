-- The edit of a line (docs/FORMATS.md, "Edit lines").
use Rattle.std.specs.Prelude.{ℕ, List, codes, if◌then◌else◌}
use Rattle.std.specs.Prelude.{Option, Some, None, option_map, option_and_then, ok_or, Result, Err}
use Rattle.std.specs.Str.{bytes_eq}
use Rattle.serde_json.specs.Data.{Data}
use Rattle.serde_json.specs.Find.{as_str}
use Rattle.cell_model.specs.declared.refusal.EditRefusal.{EditRefusal}
use Rattle.cell_model.specs.declared.refusal.EditRefusal.TheVariants as refusal
use Rattle.json_glance.specs.Line.{json_of}
use Rattle.edit_wire.specs.declared.edit.Edit.{Edit}
use Rattle.edit_wire.specs.declared.edit.EditCell.{EditCell}
use Rattle.edit_wire.specs.declared.edit.EditKind.{EditKind}
use Rattle.edit_wire.specs.declared.edit.EditKind.TheVariants as edit
use Rattle.json_fields.specs.Json.{with_members, field}
use Rattle.edit_wire.specs.Cells.{cell_of}
use Rattle.json_fields.specs.Numbers.{position_in}
use Rattle.json_fields.specs.Values.{name_in}

-- the fields that an edit has, beside `edit` and `branch`, where it has no others

-- `cell`
abbrev pub append_of : Data → Option EditKind
append_of d = with_members 3 d (option_map edit.Append (field cell_of (codes "cell") d))

-- `at` and `cell`
abbrev pub position_and_cell : Data → Option (ℕ × EditCell)
position_and_cell d =
    with_members 4 d
    (option_and_then (λ at. option_map (λ cell. (at, cell)) (field cell_of (codes "cell") d))
    (field position_in (codes "at") d))

-- those of an insert
abbrev pub insert_of : Data → Option EditKind
insert_of d = option_map (λ p. edit.Insert p.0 p.1) (position_and_cell d)

-- those of an update
abbrev pub update_of : Data → Option EditKind
update_of d = option_map (λ p. edit.Update p.0 p.1) (position_and_cell d)

-- `at`
abbrev pub delete_of : Data → Option EditKind
delete_of d = with_members 3 d (option_map edit.Delete (field position_in (codes "at") d))

-- `from`
abbrev pub branch_of : Data → Option EditKind
branch_of d = with_members 3 d (option_map edit.Branch (field position_in (codes "from") d))

-- what the word of the field `edit` asks for
abbrev pub kind_named : List ℕ → Data → Option EditKind
kind_named word d =
    if bytes_eq word (codes "append") then append_of d
    else (if bytes_eq word (codes "insert") then insert_of d
    else (if bytes_eq word (codes "update") then update_of d
    else (if bytes_eq word (codes "delete") then delete_of d
    else (if bytes_eq word (codes "branch") then branch_of d
    else None))))

-- what the field `edit` asks for
abbrev pub kind_of : Data → Option EditKind
kind_of d = option_and_then (λ word. kind_named word d) (field as_str (codes "edit") d)

-- the edit that does this on the branch
abbrev pub edit_on : List ℕ → EditKind → Edit
edit_on branch kind = record { branch = branch; kind = kind }

-- the edit that a JSON value is
unfoldable pub edit_in : Data → Option Edit
edit_in d = option_and_then (λ branch. option_map (edit_on branch) (kind_of d)) (field name_in (codes "branch") d)

-- the edit of a value, or the refusal of a line without one
abbrev pub edit_or : Option Data → Result Edit EditRefusal
edit_or None = Err refusal.BadJson
edit_or (Some d) = ok_or (edit_in d) refusal.BadEdit

-- the edit that a line is, or why it is none
abbrev pub edit_of : List ℕ → Result Edit EditRefusal
edit_of line = edit_or (json_of line)
