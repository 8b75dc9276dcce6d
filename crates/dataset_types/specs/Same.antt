-- When two columns, values, rows, tables and slots are the same, marks and flags included.
use Rattle.std.specs.Prelude.{◌≡◌, ◌&&◌, Bool}
use Rattle.std.proofs.Common.{ap}
use Rattle.std.proofs.lemmas.Bool.Decides.{Decides-and}
use Rattle.std.specs.Str.{bytes_eq}
use Rattle.std.specs.Bool.{Decides, beq}
use Rattle.std.specs.Cmp.{IsEquivalence, decided, booleans_Decides}
use Rattle.std.specs.Cmp.Lexicographic.{pointwise, bytes_decides, pointwise_decides}
use Rattle.value_types.specs.Order.{same_value, same_type}
use Rattle.value_types.specs.Same.{value_decides, type_decides}
use Rattle.value_types.specs.SameIds.{same_id, id_decides}
use Rattle.dataset_types.specs.declared.column.Column.{Column}
use Rattle.dataset_types.specs.declared.row.Marked.{Marked}
use Rattle.dataset_types.specs.declared.row.Row.{Row}
use Rattle.dataset_types.specs.Tables.{TableData}

-- the same name and type
abbrev pub same_column : Column → Column → Bool
same_column a b = bytes_eq a.name b.name && same_type a.kind b.kind

-- the same value, with a caveat on both or on none
abbrev pub same_marked : Marked → Marked → Bool
same_marked a b = same_value a.value b.value && beq a.marked b.marked

-- the same id and values, sure both or neither
abbrev pub same_row : Row → Row → Bool
same_row a b = same_id a.id b.id && (beq a.sure b.sure && pointwise same_marked a.values b.values)

-- the same columns, rows and flags
abbrev pub same_table : TableData → TableData → Bool
same_table a b =
    pointwise same_column a.columns b.columns
    && (pointwise same_row a.rows b.rows && (beq a.is_open b.is_open && beq a.is_loose b.is_loose))

pub column_decides : (a b : Column) → Decides (same_column a b) (a ≡ b)
column_decides a b =
    let both = Decides-and _ _ (bytes_decides a.name b.name) (type_decides a.kind b.kind) in (
      λ e. λ i. record { name = (both.0 e).0 i; kind = (both.0 e).1 i },
      λ e. both.1 (ap (λ (c : Column). c.name) e, ap (λ (c : Column). c.kind) e),
    )

pub marked_decides : (a b : Marked) → Decides (same_marked a b) (a ≡ b)
marked_decides a b =
    let both = Decides-and _ _ (value_decides a.value b.value) (booleans_Decides a.marked b.marked) in (
      λ e. λ i. record { value = (both.0 e).0 i; marked = (both.0 e).1 i },
      λ e. both.1 (ap (λ (m : Marked). m.value) e, ap (λ (m : Marked). m.marked) e),
    )

pub row_decides : (a b : Row) → Decides (same_row a b) (a ≡ b)
row_decides a b =
    let rest = Decides-and _ _ (booleans_Decides a.sure b.sure) (pointwise_decides marked_decides a.values b.values) in
    let all = Decides-and _ _ (id_decides a.id b.id) rest in (
      λ e. λ i. record { id = (all.0 e).0 i; sure = (all.0 e).1.0 i; values = (all.0 e).1.1 i },
      λ e. all.1 (ap (λ (r : Row). r.id) e, (ap (λ (r : Row). r.sure) e, ap (λ (r : Row). r.values) e)),
    )

pub table_decides : (a b : TableData) → Decides (same_table a b) (a ≡ b)
table_decides a b =
    let flags = Decides-and _ _ (booleans_Decides a.is_open b.is_open) (booleans_Decides a.is_loose b.is_loose) in
    let rest = Decides-and _ _ (pointwise_decides row_decides a.rows b.rows) flags in
    let all = Decides-and _ _ (pointwise_decides column_decides a.columns b.columns) rest in (
      λ e. λ i. record { columns = (all.0 e).0 i; rows = (all.0 e).1.0 i; is_open = (all.0 e).1.1.0 i; is_loose = (all.0 e).1.1.1 i },
      λ e. all.1 (ap (λ (t : TableData). t.columns) e, (ap (λ (t : TableData). t.rows) e, (ap (λ (t : TableData). t.is_open) e, ap (λ (t : TableData). t.is_loose) e))),
    )

pub column_equiv : IsEquivalence same_column
column_equiv = decided same_column column_decides

pub marked_equiv : IsEquivalence same_marked
marked_equiv = decided same_marked marked_decides

pub row_equiv : IsEquivalence same_row
row_equiv = decided same_row row_decides

pub table_equiv : IsEquivalence same_table
table_equiv = decided same_table table_decides
