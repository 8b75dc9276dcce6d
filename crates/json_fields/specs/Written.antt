-- What the functions that write JSON promise.
use Rattle.std.specs.Prelude.{◌≡◌, ◌≤◌, ℕ, List, map, Option, Some, option_and_then}
use Rattle.serde_json.specs.Data.{Data, depth}
use Rattle.serde_json.specs.Find.{as_array}
use Rattle.value_types.specs.declared.value.Value.{Value}
use Rattle.dataset_types.specs.declared.row.Row.{Row}
use Rattle.json_fields.specs.Json.{all_of}
use Rattle.json_fields.specs.Values.{value_of}

-- JSON that is read as this by the reader, and nests at most so deep
pub record IsJsonOf {A : Type 0} (reader : Data → Option A) (most : ℕ) (it : A) (d : Data) : Type 0 where
  pub read : reader d ≡ Some it
  pub depth : depth d ≤ most

-- a list of values, before they are fitted to columns
abbrev pub bare_values : Data → Option (List Value)
bare_values d = option_and_then (all_of value_of) (as_array d)

-- the values of a row without their marks
abbrev pub values_in : Row → List Value
values_in row = map (λ m. m.value) row.values
