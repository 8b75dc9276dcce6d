-- Names and values in JSON (docs/FORMATS.md, "Edit lines").
use Rattle.std.specs.Prelude.{ℕ, ℤ, List, codes, Option, Some, None, option_map, option_and_then}
use Rattle.serde_json.specs.Data.{Data, null, boolean, number, string, array, object}
use Rattle.serde_json.specs.Find.{as_str, as_i64}
use Rattle.value_types.specs.Names.{name_of}
use Rattle.value_types.specs.Numbers.{fixed_of}
use Rattle.value_types.specs.declared.value.Value.{Value}
use Rattle.value_types.specs.declared.value.Value.TheVariants as value
use Rattle.json_fields.specs.Json.{with_members, field}

-- a text that is a name
abbrev pub name_in : Data → Option (List ℕ)
name_in d = option_and_then name_of (as_str d)

-- the count of an object whose one field `fixed` is a Fixed's text
abbrev pub fixed_in : Data → Option ℤ
fixed_in d = with_members 1 d (option_and_then fixed_of (field as_str (codes "fixed") d))

-- NULL, a truth, a whole number of i64, a text or a Fixed
abbrev pub value_of : Data → Option Value
value_of null = Some value.Null
value_of (boolean b) = Some (value.Bool b)
value_of (number n) = option_map value.Int (as_i64 n)
value_of (string s) = Some (value.Text s)
value_of (array ds) = None
value_of (object ms) = option_map value.Fixed (fixed_in (object ms))

-- the row that another is put after: a text, or none for null
abbrev pub after_in : Data → Option (Option (List ℕ))
after_in null = Some None
after_in (boolean b) = None
after_in (number n) = None
after_in (string s) = Some (Some s)
after_in (array ds) = None
after_in (object ms) = None
