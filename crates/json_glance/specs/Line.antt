-- What a line is as JSON, and what a first look tells of it.
use Rattle.std.specs.Prelude.{ℕ, List, if◌then◌else◌, Option, Some, None, option_and_then}
use Rattle.std.specs.Str.{is_utf8}
use Rattle.serde_json.specs.Data.{Data}
use Rattle.serde_json.specs.Find.{get, as_str}
use Rattle.serde_json.specs.Read.{read}
use Rattle.json_glance.specs.declared.look.Glance.{Glance}
use Rattle.json_glance.specs.declared.look.Glance.TheVariants.{NotJson, NoText, Text}

-- the value that a line is, where it is JSON in UTF-8
unfoldable pub json_of : List ℕ → Option Data
json_of line = if is_utf8 line then read line else None

-- what is told of a field that may be a text
abbrev pub told : Option (List ℕ) → Glance
told None = NoText
told (Some text) = Text text

-- what a first look at a value tells, where there is one: the text at the field of that name
abbrev pub glance_at : List ℕ → Option Data → Glance
glance_at name None = NotJson
glance_at name (Some d) = told (option_and_then as_str (get name d))
