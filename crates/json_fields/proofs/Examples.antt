-- Worked examples of what fields hold.
use Rattle.std.proofs.Common.{◌≡◌, refl}
use Rattle.std.specs.Prelude.{codes, pos, Some, None}
use Rattle.serde_json.specs.Data.{null, string, array, object, no_items, item, no_members, member}
use Rattle.value_types.specs.Numbers.{fixed_of}
use Rattle.value_types.specs.declared.value.ColumnType.TheVariants as kind
use Rattle.value_types.specs.declared.value.Value.TheVariants as value
use Rattle.dataset_types.specs.Fitting.{fitted}
use Rattle.json_fields.specs.Columns.{column_in}
use Rattle.json_fields.specs.Values.{value_of}

-- {"fixed":"2.5"} is 25,000 ten-thousandths
fixed : value_of (object (member (codes "fixed") (string (codes "2.5")) no_members)) ≡ Some (value.Fixed (pos 25000))
unfolding fixed_of
fixed = refl

-- a field more, and it is no value
no_fixed : value_of (object (member (codes "a") null (member (codes "fixed") (string (codes "2.5")) no_members))) ≡ None
no_fixed = refl

-- a whole number in a `fixed` column is widened
widened : fitted kind.Fixed (value.Int (pos 3)) ≡ Some (value.Fixed (pos 30000))
widened = refl

-- ["a","int"]
column : column_in (array (item (string (codes "a")) (item (string (codes "int")) no_items))) ≡ Some (record { name = codes "a"; kind = kind.Int })
column = refl
