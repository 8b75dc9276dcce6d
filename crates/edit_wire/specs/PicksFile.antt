-- The picks of a file (docs/FORMATS.md, "Picks").
use Rattle.std.specs.Prelude.{◌≡◌, ℕ, ◌+◌, ◌-◌, ◌^◌, min, List, [], ◌∷◌, length, codes, nat_le, if◌then◌else◌}
use Rattle.std.specs.Prelude.{Option, Some, None, option_map, option_and_then, Result, Ok, Err}
use Rattle.std.specs.Option.{option_or}
use Rattle.serde_json.specs.Data.{Data}
use Rattle.serde_json.specs.Find.{as_bool}
use Rattle.line_reader.specs.Cut.{lines_of}
use Rattle.line_reader.specs.Blanks.{is_blank}
use Rattle.dataset_types.specs.declared.picks.Site.{Site}
use Rattle.dataset_types.specs.declared.picks.Site.TheVariants as site
use Rattle.dataset_types.specs.declared.picks.Choice.{Choice}
use Rattle.dataset_types.specs.declared.picks.Choice.TheVariants as choice
use Rattle.dataset_types.specs.declared.picks.Pick.{Pick}
use Rattle.dataset_types.specs.Picks.{pick_of}
use Rattle.edit_wire.specs.declared.picks.PicksFault.{PicksFault}
use Rattle.edit_wire.specs.declared.picks.PicksFault.TheVariants as fault
use Rattle.json_fields.specs.Json.{with_members, field}
use Rattle.json_fields.specs.Values.{value_of}
use Rattle.json_glance.specs.Line.{json_of}
use Rattle.json_fields.specs.Numbers.{position_in}

-- a whole number from 1 to 4,294,967,295
abbrev pub count_in : Data → Option ℕ
count_in d = option_and_then (λ n. if nat_le 1 n then Some n else None) (position_in d)

-- the field of a record and a column
abbrev pub field_site : Data → Option Site
field_site d =
    option_and_then (λ r. option_map (site.Field r) (field count_in (codes "column") d))
    (field count_in (codes "record") d)

-- a surplus record
abbrev pub record_site : Data → Option Site
record_site d = option_map site.Record (field count_in (codes "record") d)

-- a call of CAVEAT
abbrev pub call_site : Data → Option Site
call_site d = option_map site.Call (field count_in (codes "call") d)

-- the value that is chosen
abbrev pub value_choice : Data → Option Choice
value_choice d = option_map choice.Value (field value_of (codes "value") d)

-- whether the record is kept
abbrev pub keep_choice : Data → Option Choice
keep_choice d = option_map choice.Keep (field as_bool (codes "keep") d)

-- the pick at a site of the field `cell`, of an object with so many fields
abbrev pub pick_at : ℕ → Option Site → Option Choice → Data → Option Pick
pick_at count at chosen d =
    with_members count d
    (option_and_then (λ cell. option_and_then (λ s. option_map (pick_of cell s) chosen) at)
    (field count_in (codes "cell") d))

-- a pick of a repaired field
abbrev pub field_pick : Data → Option Pick
field_pick d = pick_at 4 (field_site d) (value_choice d) d

-- a pick of a surplus record
abbrev pub record_pick : Data → Option Pick
record_pick d = pick_at 3 (record_site d) (keep_choice d) d

-- a pick of a call
abbrev pub call_pick : Data → Option Pick
call_pick d = pick_at 3 (call_site d) (value_choice d) d

-- the pick that a value is
abbrev pub pick_in : Data → Option Pick
pick_in d = option_or (field_pick d) (option_or (record_pick d) (call_pick d))

-- the pick that a line of at most 65,536 bytes is
unfoldable pub pick_on : List ℕ → Option Pick
pick_on line = if nat_le (length line) 65536 then option_and_then pick_in (json_of line) else None

-- the number of a line as far as it can be said: at most 4,294,967,295
abbrev pub said_number : ℕ → ℕ
said_number n = min n (2 ^ 32 - 1)

-- what a line says: nothing where it is blank, else a pick; none where it is neither
abbrev pub line_pick : List ℕ → Option (Option Pick)
line_pick line = if is_blank line then Some None else option_map Some (pick_on line)

-- one pick more in front
abbrev pub onto : Pick → Result (List Pick) ℕ → Result (List Pick) ℕ
onto pick (Ok picks) = Ok (pick ∷ picks)
onto pick (Err number) = Err number

-- what a line says and then the picks of the lines after it, or the number of the line where it says nothing right
abbrev pub with_line : ℕ → Option (Option Pick) → Result (List Pick) ℕ → Result (List Pick) ℕ
with_line number None more = Err (said_number number)
with_line number (Some None) more = more
with_line number (Some (Some pick)) more = onto pick more

-- the picks of lines, where the first of them has this number
abbrev pub picks_from : ℕ → List (List ℕ) → Result (List Pick) ℕ
picks_from number [] = Ok []
picks_from number (line ∷ lines) = with_line number (line_pick line) (picks_from (number + 1) lines)

-- the picks of a file's bytes, or the number of the first line that is neither blank nor a pick
abbrev pub picks_of : List ℕ → Result (List Pick) ℕ
picks_of bytes = picks_from 1 (lines_of bytes)

-- what a call answers of it, unless memory ran out
abbrev pub GivesPicks : Result (List Pick) PicksFault → Result (List Pick) ℕ → Type 0
GivesPicks (Ok picks) given = given ≡ Ok picks
GivesPicks (Err (fault.BadLine number)) given = given ≡ Err number
GivesPicks (Err fault.NoMemory) given = Unit {0}
