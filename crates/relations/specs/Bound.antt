-- The columns of a row with their values, which the names of an expression stand for.
use Rattle.std.specs.Prelude.{◌≡◌, Option, List, [], ◌∷◌, map}
use Rattle.value_types.specs.declared.value.Value.{Value}
use Rattle.dataset_types.specs.declared.row.Marked.{Marked}
use Rattle.expr_meaning.specs.declared.bindings.Binding.{Binding}
use Rattle.expr_meaning.specs.declared.bindings.ScopeColumn.{ScopeColumn}
use Rattle.expr_meaning.specs.Settings.{PlainBinding, KnownBinding}

-- each column with its value, as far as there are both
abbrev pub each_bound : {V B : Type 0} → (ScopeColumn → V → B) → List ScopeColumn → List V → List B
each_bound bound [] vs = []
each_bound bound (c ∷ cs) [] = []
each_bound bound (c ∷ cs) (v ∷ vs) = bound c v ∷ each_bound bound cs vs

-- a column with its value
abbrev pub bound : ScopeColumn → Marked → Binding
bound c m = record { qualifier = c.qualifier; name = c.column.name; value = m }

-- the same without a mark
abbrev pub bound_plain : ScopeColumn → Value → PlainBinding
bound_plain c v = record { qualifier = c.qualifier; name = c.column.name; value = v }

-- the same, of a value that may not be known
abbrev pub bound_known : ScopeColumn → Option Value → KnownBinding
bound_known c v = record { qualifier = c.qualifier; name = c.column.name; value = v }

-- the bindings of a row
abbrev pub bindings : List ScopeColumn → List Marked → List Binding
bindings = each_bound bound

-- those of a row without marks
abbrev pub plain_bindings : List ScopeColumn → List Value → List PlainBinding
plain_bindings = each_bound bound_plain

-- those of what is shown of a row
abbrev pub known_bindings : List ScopeColumn → List (Option Value) → List KnownBinding
known_bindings = each_bound bound_known

-- a binding with another value
abbrev pub with_value : Binding → Marked → Binding
with_value b m = record { qualifier = b.qualifier; name = b.name; value = m }

-- bindings with other values
abbrev pub revalued : List Binding → List Marked → List Binding
revalued [] ms = []
revalued (b ∷ bs) [] = b ∷ bs
revalued (b ∷ bs) (m ∷ ms) = with_value b m ∷ revalued bs ms

-- the bindings are these columns with the values that they have
abbrev pub AreUnder : List ScopeColumn → List Binding → Type 0
AreUnder columns row = row ≡ bindings columns (map (λ b. b.value) row)
