-- The value that a CAVEAT gives, which a pick may replace.
use Rattle.std.specs.Prelude.{ℕ, Bool, true, false, if◌then◌else◌, Option, Some, None, List}
use Rattle.value_types.specs.declared.value.Value.{Value}
use Rattle.value_types.specs.declared.value.Value.TheVariants.{Null, Bool as Truth, Int, Fixed, Text}
use Rattle.dataset_types.specs.Picks.{choice_of}
use Rattle.dataset_types.specs.declared.picks.Pick.{Pick}
use Rattle.dataset_types.specs.declared.picks.Choice.{Choice}
use Rattle.dataset_types.specs.declared.picks.Choice.TheVariants as choice
use Rattle.dataset_types.specs.declared.picks.Site.TheVariants as site

-- whether a pick may stand for a value: the value isn't NULL, and the pick is NULL or of its type
abbrev pub may_stand : Value → Value → Bool
may_stand Null p = false
may_stand v Null = true
may_stand (Truth a) (Truth b) = true
may_stand (Int a) (Int b) = true
may_stand (Fixed a) (Fixed b) = true
may_stand (Text a) (Text b) = true
may_stand v p = false

-- the choice's value where it may stand for the value, else the value
abbrev pub replaced : Value → Option Choice → Value
replaced v None = v
replaced v (Some (choice.Value p)) = if may_stand v p then p else v
replaced v (Some (choice.Keep keep)) = v

-- what a call of CAVEAT gives for its operand's value
abbrev pub picked : List Pick → ℕ → ℕ → Value → Value
picked picks cell call v = replaced v (choice_of picks cell (site.Call call))
