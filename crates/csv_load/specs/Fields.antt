-- The values of fields, and what stands for those that can't be read (docs/FORMATS.md, "Loaded files").
use Rattle.std.specs.Prelude.{ℕ, pos, List, [], ◌∷◌, Bool, true, false, Option, Some, None, is_none, unwrap_or, option_and_then}
use Rattle.value_types.specs.declared.value.ColumnType.{ColumnType}
use Rattle.value_types.specs.declared.value.ColumnType.TheVariants as kind
use Rattle.value_types.specs.declared.value.Value.{Value}
use Rattle.value_types.specs.declared.value.Value.TheVariants as value
use Rattle.dataset_types.specs.declared.load_options.Repair.{Repair}
use Rattle.dataset_types.specs.declared.load_options.Repair.TheVariants as repair
use Rattle.dataset_types.specs.declared.picks.Site.{Site}
use Rattle.dataset_types.specs.declared.picks.Choice.{Choice}
use Rattle.dataset_types.specs.declared.picks.Choice.TheVariants as choice
use Rattle.dataset_types.specs.declared.picks.Pick.{Pick}
use Rattle.dataset_types.specs.declared.row.Marked.{Marked}
use Rattle.dataset_types.specs.Picks.{choice_of}
use Rattle.dataset_types.specs.Fitting.{fitted}
use Rattle.csv_load.specs.Ends.{stripped}
use Rattle.csv_load.specs.Guess.{read}

-- NULL where nothing is left of a field, else what it is read as
abbrev pub read_stripped : ColumnType → List ℕ → Option Value
read_stripped k [] = Some value.Null
read_stripped k (b ∷ bs) = read k (b ∷ bs)

-- the value of a field, where it is readable: a Text as it stands, any other stripped
abbrev pub own_value : ColumnType → List ℕ → Option Value
own_value kind.Bool field = read_stripped kind.Bool (stripped field)
own_value kind.Int field = read_stripped kind.Int (stripped field)
own_value kind.Fixed field = read_stripped kind.Fixed (stripped field)
own_value kind.Text field = read kind.Text field

-- the same of a field that may be missing in a short record
abbrev pub value_in : ColumnType → Option (List ℕ) → Option Value
value_in k field = option_and_then (own_value k) field

-- how sites of a load are settled: the default, and the picks of a cell
pub record Repairs : Type 0 where
  pub repair : Repair
  pub picks : List Pick
  pub cell : ℕ

-- 0, 0.0000, false or the empty text
abbrev pub zero_of : ColumnType → Value
zero_of kind.Bool = value.Bool false
zero_of kind.Int = value.Int (pos 0)
zero_of kind.Fixed = value.Fixed (pos 0)
zero_of kind.Text = value.Text []

-- what stands at a site without a pick that fits
abbrev pub default_of : Repair → ColumnType → Value
default_of repair.Null k = value.Null
default_of repair.Zero k = zero_of k

-- the value that a choice puts in a field of a type, where it fits
abbrev pub chosen : ColumnType → Choice → Option Value
chosen k (choice.Value v) = fitted k v
chosen k (choice.Keep b) = None

-- the value at a site: the pick where it fits, else the default
abbrev pub site_value : Repairs → ColumnType → Site → Value
site_value r k site = unwrap_or (option_and_then (chosen k) (choice_of r.picks r.cell site)) (default_of r.repair k)

-- the value of a field, which is a site where it is unreadable or missing
abbrev pub field_value : Repairs → ColumnType → Site → Option (List ℕ) → Value
field_value r k site field = unwrap_or (value_in k field) (site_value r k site)

-- the same, marked at a site
abbrev pub marked_value : Repairs → ColumnType → Site → Option (List ℕ) → Marked
marked_value r k site field = record { value = field_value r k site field; marked = is_none (value_in k field) }
