-- Worked examples of groups and DISTINCT. Each gives the whole result, which is within the limits where these few rows are.
use Rattle.std.proofs.Common.{◌≡◌, refl, true, false, List, [], ◌∷◌, Ok, None}
use Rattle.std.specs.Prelude.{ℕ, pos, codes}
use Rattle.value_types.specs.declared.value.Value.{Value}
use Rattle.value_types.specs.declared.value.Value.TheVariants.{Null, Int}
use Rattle.value_types.specs.declared.value.ColumnType.TheVariants as kind
use Rattle.value_types.specs.declared.row_id.RowId.{RowId, Rec, Key}
use Rattle.dataset_types.specs.declared.row.Marked.{Marked}
use Rattle.dataset_types.specs.declared.row.Row.{Row}
use Rattle.expr_lang.specs.declared.expr.Expr.{CountAll, Literal}
use Rattle.expr_meaning.specs.declared.bindings.ScopeColumn.{ScopeColumn}
use Rattle.expr_meaning.proofs.Readings.{M-CountAll, M-Literal}
use Rattle.relations.specs.declared.parts.Item.{Item}
use Rattle.relations.specs.Rels.{rel_of, whole}
use Rattle.rel_group.specs.Groups.{Group}
use Rattle.rel_group.specs.Keys.{items_at, ascending}
use Rattle.rel_group.specs.Groups.{bound_rows, groups, key_columns, group_setting, may_lack_groups}
use Rattle.rel_group.specs.Group.{group_values, distinct}

abbrev plain : Value → Marked
plain v = record { value = v; marked = false }

abbrev guessed : Value → Marked
guessed v = record { value = v; marked = true }

abbrev column : List ℕ → ScopeColumn
column name = record { qualifier = None; column = record { name = name; kind = kind.Int } }

abbrev columns : List ScopeColumn
columns = column (codes "a") ∷ column (codes "b") ∷ []

abbrev row : RowId → Marked → Marked → Row
row id a b = record { id = id; sure = true; values = a ∷ b ∷ [] }

abbrev one : Value
one = Int (pos 1)

abbrev two : Value
two = Int (pos 2)

-- ---- keys

-- each key once, NULL first
in_order : ascending ((two ∷ []) ∷ (Null ∷ []) ∷ (two ∷ []) ∷ (one ∷ []) ∷ []) ≡ (Null ∷ []) ∷ (one ∷ []) ∷ (two ∷ []) ∷ []
in_order = refl

-- the first value that differs decides
by_the_first : ascending ((one ∷ two ∷ []) ∷ (Null ∷ two ∷ []) ∷ (one ∷ Null ∷ []) ∷ []) ≡ (Null ∷ two ∷ []) ∷ (one ∷ Null ∷ []) ∷ (one ∷ two ∷ []) ∷ []
by_the_first = refl

-- GROUP BY a, a has both values in its ids, and a name stands for one column
named_twice : items_at (1 ∷ 1 ∷ []) (one ∷ two ∷ []) ≡ one ∷ one ∷ []
named_twice = refl

bound_once : key_columns columns (1 ∷ 1 ∷ []) ≡ column (codes "a") ∷ []
bound_once = refl

-- ---- groups

-- two rows without a key, which are in one group
abbrev nulls : List Row
nulls = row (Rec 1) (plain Null) (plain one) ∷ row (Rec 2) (plain Null) (plain two) ∷ []

of_nulls : groups columns (1 ∷ []) nulls ≡ record { key = Null ∷ []; sure = true; rows = bound_rows columns nulls } ∷ []
of_nulls = refl

-- a row whose key is a guess doesn't make its group sure
abbrev doubt : List Row
doubt = row (Rec 1) (guessed one) (plain one) ∷ row (Rec 2) (plain two) (plain one) ∷ []

of_doubt : groups columns (1 ∷ []) doubt
    ≡ record { key = one ∷ []; sure = false; rows = bound_rows columns (row (Rec 1) (guessed one) (plain one) ∷ []) }
    ∷ record { key = two ∷ []; sure = true; rows = bound_rows columns (row (Rec 2) (plain two) (plain one) ∷ []) } ∷ []
of_doubt = refl

-- and leaves the result open
opens : may_lack_groups (1 ∷ []) (rel_of columns doubt false false) ≡ true
opens = refl

-- without keys there is one group, of no rows too, and the result is closed beside an open relation
of_none : groups columns [] [] ≡ record { key = []; sure = true; rows = [] } ∷ []
of_none = refl

stays_closed : may_lack_groups [] (rel_of columns [] true false) ≡ false
stays_closed = refl

-- ---- items

abbrev all_rows : Group
all_rows = record { key = []; sure = true; rows = bound_rows columns nulls }

abbrev counted : List Item
counted = record { expr = CountAll; name = codes "n" } ∷ record { expr = Literal one; name = codes "x" } ∷ []

-- COUNT(*) over an open relation is a guess, and a literal beside it isn't
of_open : group_values counted [] 1 (group_setting columns [] true all_rows) ≡ Ok (guessed two ∷ plain one ∷ [])
of_open = rw (M-CountAll (group_setting columns [] true all_rows) [] 1, M-Literal (group_setting columns [] true all_rows) [] 1 one) refl

of_closed : group_values counted [] 1 (group_setting columns [] false all_rows) ≡ Ok (plain two ∷ plain one ∷ [])
of_closed = rw (M-CountAll (group_setting columns [] false all_rows) [] 1, M-Literal (group_setting columns [] false all_rows) [] 1 one) refl

-- ---- DISTINCT

abbrev twice : List Row
twice = row (Rec 1) (plain two) (plain one) ∷ row (Rec 2) (guessed one) (plain one) ∷ row (Rec 3) (plain two) (plain one) ∷ []

-- a guess makes its row unsure and opens; no value is marked
of_twice : distinct (rel_of columns twice false true)
    ≡ whole (rel_of columns
    (record { id = Key (one ∷ one ∷ []); sure = false; values = plain one ∷ plain one ∷ [] } ∷ row (Key (two ∷ one ∷ [])) (plain two) (plain one) ∷ []) true false)
of_twice = refl
