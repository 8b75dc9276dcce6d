-- The setting of an expression: a row, and in a grouped query the rows of a group.
use Rattle.std.specs.Prelude.{Bool, false, Option, None, option_map, List, map}
use Rattle.value_types.specs.declared.value.Value.{Value}
use Rattle.dataset_types.specs.declared.row.Marked.{Marked}
use Rattle.expr_meaning.specs.declared.bindings.Binding.{Binding}
use Rattle.expr_meaning.specs.Known.{unless_marked}
use Rattle.expr_meaning.specs.Names.{Name}

-- a binding without its mark
pub record PlainBinding : Type 0 where
  pub qualifier : Option Name
  pub name : Name
  pub value : Value

-- a binding whose value isn't known where it is marked
pub record KnownBinding : Type 0 where
  pub qualifier : Option Name
  pub name : Name
  pub value : Option Value

-- a row, and the rows of the group where there is one; `marked` says that which rows are in it isn't certain
pub record MarkedSetting : Type 0 where
  pub row : List Binding
  pub group : Option (List (List Binding))
  pub marked : Bool

-- the same without marks
pub record PlainSetting : Type 0 where
  pub row : List PlainBinding
  pub group : Option (List (List PlainBinding))

-- the same of what is known: a group whose rows aren't certain has none that are known
pub record KnownSetting : Type 0 where
  pub row : List KnownBinding
  pub group : Option (Option (List (List KnownBinding)))

-- over a row alone
abbrev pub at_row : List Binding → MarkedSetting
at_row row = record { row = row; group = None; marked = false }

-- over a row alone, without marks
abbrev pub at_plain_row : List PlainBinding → PlainSetting
at_plain_row row = record { row = row; group = None }

-- over what is known of a row alone
abbrev pub at_known_row : List KnownBinding → KnownSetting
at_known_row row = record { row = row; group = None }

-- a binding without its mark
abbrev pub plain_binding : Binding → PlainBinding
plain_binding b = record { qualifier = b.qualifier; name = b.name; value = b.value.value }

-- a marked value's own value, where it is known
abbrev pub known_value : Marked → Option Value
known_value m = unless_marked m.marked m.value

-- what is known of a binding
abbrev pub known_binding : Binding → KnownBinding
known_binding b = record { qualifier = b.qualifier; name = b.name; value = known_value b.value }

-- a setting without its marks
abbrev pub plain_setting : MarkedSetting → PlainSetting
plain_setting s = record { row = map plain_binding s.row; group = option_map (map (map plain_binding)) s.group }

-- what is known of a setting
abbrev pub known_setting : MarkedSetting → KnownSetting
known_setting s = record {
  row = map known_binding s.row;
  group = option_map (λ rows. unless_marked s.marked (map (map known_binding) rows)) s.group;
}
