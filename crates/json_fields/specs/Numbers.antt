-- Whole numbers in JSON that count something (docs/FORMATS.md, "Edit lines").
use Rattle.std.specs.Prelude.{ℕ, ◌^◌, nat_lt, if◌then◌else◌, Option, Some, None, option_and_then}
use Rattle.serde_json.specs.Data.{Data}
use Rattle.serde_json.specs.Find.{as_number, as_u64}

-- a number of u32
abbrev pub in_u32 : ℕ → Option ℕ
in_u32 n = if nat_lt n (2 ^ 32) then Some n else None

-- a whole number from 0 to 4,294,967,295
abbrev pub position_in : Data → Option ℕ
position_in d = option_and_then in_u32 (option_and_then as_u64 (as_number d))
