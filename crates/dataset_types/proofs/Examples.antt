-- Worked examples of the definitions.
use Rattle.std.proofs.Common.{◌≡◌, ℕ, List, [], ◌∷◌, Bool, true, false, Some, None, refl}
use Rattle.std.specs.Prelude.{pos, replicate}
use Rattle.value_types.specs.declared.value.ColumnType.TheVariants as kind
use Rattle.value_types.specs.declared.value.Value.TheVariants as value
use Rattle.dataset_types.specs.declared.column.Column.{Column}
use Rattle.dataset_types.specs.declared.picks.Site.TheVariants as site
use Rattle.dataset_types.specs.declared.picks.Choice.TheVariants as choice
use Rattle.dataset_types.specs.declared.picks.Pick.{Pick}
use Rattle.dataset_types.specs.declared.slot.Slot.{Slot}
use Rattle.dataset_types.specs.declared.slot.Named.{Named}
use Rattle.dataset_types.specs.Slots.{absent}
use Rattle.dataset_types.specs.Envs.{empty_env, look, set_slot, set_slots, set_name, blur_env, after_writes}
use Rattle.dataset_types.specs.Tables.{TableData, fits, text_size, within_limits, table_of}
use Rattle.dataset_types.specs.Picks.{choice_of}

-- the names a, b and c
abbrev a : List ℕ
a = 97 ∷ []

abbrev b : List ℕ
b = 98 ∷ []

abbrev c : List ℕ
c = 99 ∷ []

abbrev empty_table : TableData
empty_table = table_of [] [] false false

abbrev full : Slot
full = record { table = Some empty_table; doubt = false }

-- no dataset, in doubt
abbrev perhaps : Slot
perhaps = record { table = None; doubt = true }

abbrev entry : List ℕ → Slot → Named
entry name slot = record { name = name; slot = slot }

-- a name goes between the one before it and the one after it
between : set_slot (entry a full ∷ entry c full ∷ []) (entry b absent) ≡ entry a full ∷ entry b absent ∷ entry c full ∷ []
between = refl

-- a name that is listed has its new slot
replaced : set_slot (entry a full ∷ entry c full ∷ []) (entry c absent) ≡ entry a full ∷ entry c absent ∷ []
replaced = refl

-- of two writes of one name the first counts
first_counts : set_slots [] (entry a full ∷ entry a absent ∷ []) ≡ entry a full ∷ []
first_counts = refl

-- a name that isn't listed is absent, without doubt
unlisted : look empty_env a ≡ absent
unlisted = refl

-- under a blur it is absent, in doubt
unlisted_blurred : look (blur_env empty_env) a ≡ perhaps
unlisted_blurred = refl

-- a listed name keeps its dataset under a blur, in doubt
listed_blurred : look (blur_env (set_name empty_env (entry a full))) a ≡ record { table = Some empty_table; doubt = true }
listed_blurred = refl

-- what is written after a blur is without doubt
written_after_blur : look (after_writes empty_env true (entry b full ∷ [])) b ≡ full
written_after_blur = refl

-- NULL fits every column, and an Int no column of Text
null_fits : fits value.Null kind.Text ≡ true
null_fits = refl

int_does_not : fits (value.Int (pos 1)) kind.Text ≡ false
int_does_not = refl

-- the bytes of a Text count, and those of other values don't
text_counts : text_size (value.Text (97 ∷ 98 ∷ [])) ≡ 2
text_counts = refl

int_counts_nothing : text_size (value.Int (pos 12)) ≡ 0
int_counts_nothing = refl

abbrev column : Column
column = record { name = a; kind = kind.Int }

-- 32 columns are within the limits, and 33 aren't
as_many_columns : within_limits (table_of (replicate 32 column) [] false false) ≡ true
as_many_columns = refl

too_many_columns : within_limits (table_of (replicate 33 column) [] false false) ≡ false
too_many_columns = refl

abbrev keep : Bool → Pick
keep k = record { cell = 3; site = site.Record 7; choice = choice.Keep k }

-- the last pick for a site counts
last_counts : choice_of (keep true ∷ keep false ∷ []) 3 (site.Record 7) ≡ Some (choice.Keep false)
last_counts = refl

-- a pick is for its cell and its site alone
other_cell : choice_of (keep true ∷ []) 4 (site.Record 7) ≡ None
other_cell = refl

other_site : choice_of (keep true ∷ []) 3 (site.Call 7) ≡ None
other_site = refl
