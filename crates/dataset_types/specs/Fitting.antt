-- Values as those of a type.
use Rattle.std.specs.Prelude.{if◌then◌else◌, Option, Some, None, option_map}
use Rattle.value_types.specs.Numbers.{widened}
use Rattle.value_types.specs.declared.value.ColumnType.{ColumnType}
use Rattle.value_types.specs.declared.value.ColumnType.TheVariants as kind
use Rattle.value_types.specs.declared.value.Value.{Value}
use Rattle.value_types.specs.declared.value.Value.TheVariants as value
use Rattle.dataset_types.specs.Tables.{fits}

-- a value as one of a type: widened from Int to Fixed, or as it is where it fits
abbrev pub fitted : ColumnType → Value → Option Value
fitted kind.Fixed (value.Int n) = option_map value.Fixed (widened n)
fitted k v = if fits v k then Some v else None
