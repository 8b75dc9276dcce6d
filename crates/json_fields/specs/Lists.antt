-- The lists of spreadsheet commands in JSON (docs/FORMATS.md, "Spreadsheet commands").
use Rattle.std.specs.Prelude.{ℕ, ◌&&◌, List, length, codes, Bool, true, false, nat_le, if◌then◌else◌}
use Rattle.std.specs.Prelude.{Option, Some, None, option_map, option_and_then}
use Rattle.std.specs.Str.{bytes_eq}
use Rattle.serde_json.specs.Data.{Data, Items, no_items, item}
use Rattle.serde_json.specs.Find.{as_str, as_array}
use Rattle.sheet_commands.specs.Apart.{are_apart}
use Rattle.sheet_commands.specs.declared.sort_names.SortName.{SortName}
use Rattle.json_fields.specs.Json.{all_of}
use Rattle.json_fields.specs.Values.{name_in}

-- ---- columns that are kept

-- names of which none comes twice
abbrev pub distinct_names : List (List ℕ) → Option (List (List ℕ))
distinct_names names = if are_apart names then Some names else None

-- 1 to 32 of them
abbrev pub are_kept : List (List ℕ) → Option (List (List ℕ))
are_kept names = if nat_le 1 (length names) && nat_le (length names) 32 then distinct_names names else None

-- the same in JSON
abbrev pub kept_in : Data → Option (List (List ℕ))
kept_in d = option_and_then (λ ds. option_and_then are_kept (all_of name_in ds)) (as_array d)

-- ---- columns to sort by

-- whether an order by its name descends
abbrev pub order_named : List ℕ → Option Bool
order_named s =
    if bytes_eq s (codes "asc") then Some false
    else (if bytes_eq s (codes "desc") then Some true
    else None)

-- the same in JSON
abbrev pub order_in : Data → Option Bool
order_in d = option_and_then order_named (as_str d)

-- a column and an order, and nothing after them
abbrev pub sort_name_from : Items → Option SortName
sort_name_from (item a (item b no_items)) =
    option_and_then (λ n. option_map (λ descending. record { name = n; descending = descending }) (order_in b))
    (name_in a)
sort_name_from _ = None

-- the same as an array
abbrev pub sort_name_in : Data → Option SortName
sort_name_in d = option_and_then sort_name_from (as_array d)

-- 1 to 32 of them
abbrev pub are_sorted_by : List SortName → Option (List SortName)
are_sorted_by by = if nat_le 1 (length by) && nat_le (length by) 32 then Some by else None

-- the same in JSON
abbrev pub by_in : Data → Option (List SortName)
by_in d = option_and_then (λ ds. option_and_then are_sorted_by (all_of sort_name_in ds)) (as_array d)
