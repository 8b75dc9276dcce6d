-- Looking into JSON: how many fields an object has, what a field holds, and lists.
use Rattle.std.specs.Prelude.{ℕ, suc, ◌==◌, List, [], ◌∷◌, Bool, false, if◌then◌else◌}
use Rattle.std.specs.Prelude.{Option, Some, None, option_map, option_and_then, is_some, unwrap_or}
use Rattle.std.specs.Option.{option_map_or}
use Rattle.serde_json.specs.Data.{Data, Items, no_items, item, Members, no_members, member}
use Rattle.serde_json.specs.Find.{get, as_object}

-- how many members an object has
abbrev pub member_count : Members → ℕ
member_count no_members = 0
member_count (member key d ms) = suc (member_count ms)

-- an object with so many members
abbrev pub has_members : ℕ → Data → Bool
has_members count d = unwrap_or (option_map (λ ms. member_count ms == count) (as_object d)) false

-- what is read of an object, where it has so many members.
-- Where each of so many fields is read too, it has these alone
abbrev pub with_members : {A : Type 0} → ℕ → Data → Option A → Option A
with_members count d found = if has_members count d then found else None

-- what a field is, as the reader reads it
abbrev pub field : {A : Type 0} → (Data → Option A) → List ℕ → Data → Option A
field reader name d = option_and_then reader (get name d)

-- one where an object has a field, else none
abbrev pub counted : List ℕ → Data → ℕ
counted name d = if is_some (get name d) then 1 else 0

-- what a field is that may be missing, as the reader reads it, or what stands where it is missing
abbrev pub field_or : {A : Type 0} → (Data → Option A) → A → List ℕ → Data → Option A
field_or reader missing name d = option_map_or reader (get name d) (Some missing)

-- each item as the reader reads it, or none where it doesn't read one of them
abbrev pub all_of : {A : Type 0} → (Data → Option A) → Items → Option (List A)
all_of reader no_items = Some []
all_of reader (item d ds) = option_and_then (λ x. option_map (λ xs. x ∷ xs) (all_of reader ds)) (reader d)
