-- ORDER BY: a stable sort by columns, NULL first ascending and last descending.
use Rattle.std.specs.Prelude.{◌-◌, Bool, true, false, ◌&&◌, ◌||◌, if◌then◌else◌, is_none, unwrap_or, Option, Some, get_or, List, [], ◌∷◌}
use Rattle.std.specs.List.{list_any}
use Rattle.std.specs.Ordering.{is_lt, ordering_reverse, ordering_then}
use Rattle.std.specs.declared.cmp.Ordering.{Ordering}
use Rattle.std.specs.declared.cmp.Ordering.TheVariants.{Equal}
use Rattle.value_types.specs.declared.value.Value.{Value}
use Rattle.value_types.specs.declared.value.Value.TheVariants.{Null}
use Rattle.value_types.specs.Order.{value_cmp}
use Rattle.dataset_types.specs.declared.row.Marked.{Marked}
use Rattle.dataset_types.specs.declared.row.Row.{Row}
use Rattle.dataset_types.specs.Plain.{PlainRow}
use Rattle.caveat_marks.specs.Shown.{ShownRow}
use Rattle.cell_errors.specs.Answers.{Answer}
use Rattle.relations.specs.declared.parts.SortKey.{SortKey}
use Rattle.relations.specs.Rels.{RelData, rel_of, whole}
use Rattle.relations.specs.Plain.{PlainRel, plain_whole}
use Rattle.relations.specs.Shown.{ShownRel}
use Rattle.rel_ops.specs.Sorted.{sorted}

-- the item at a place, which counts from 1, else the other
abbrev pub item_at : {A : Type 0} → A → SortKey → List A → A
item_at other k items = get_or items (k.column - 1) other

-- an order, turned round where it descends
abbrev pub turned : Bool → Ordering → Ordering
turned true o = ordering_reverse o
turned false o = o

-- rows by their values in the columns of the keys: the first key on which they differ decides
module _ {R : Type 0} (value : SortKey → R → Value) where
  -- by one key
  abbrev pub key_cmp : SortKey → R → R → Ordering
  key_cmp k a b = turned k.descending (value_cmp (value k a) (value k b))

  -- by all keys, the first before the others
  abbrev pub keys_cmp : List SortKey → R → R → Ordering
  keys_cmp [] a b = Equal
  keys_cmp (k ∷ ks) a b = ordering_then (key_cmp k a b) (keys_cmp ks a b)

  -- whether a row comes before another
  abbrev pub keys_lt : List SortKey → R → R → Bool
  keys_lt ks a b = is_lt (keys_cmp ks a b)

-- the value in the column of a key
abbrev pub marked_at_key : SortKey → Row → Marked
marked_at_key k r = item_at (record { value = Null; marked = false }) k r.values

-- that value without its mark
abbrev pub value_at_key : SortKey → Row → Value
value_at_key k r = (marked_at_key k r).value

-- the rows in order by the keys
abbrev pub in_order : List SortKey → List Row → List Row
in_order ks rows = sorted (keys_lt value_at_key ks) rows

-- whether a sure row is placed by a marked value
abbrev pub has_marked_key : List SortKey → Row → Bool
has_marked_key ks r = r.sure && list_any (λ k. (marked_at_key k r).marked) ks

-- a sure row that is placed by a marked value makes it loose
abbrev pub ordered : RelData → List SortKey → Answer RelData
ordered rel ks =
    whole (rel_of rel.columns (in_order ks rel.rows) rel.is_open (rel.is_loose || list_any (has_marked_key ks) rel.rows))

-- ---- without marks

-- the value in the column of a key
abbrev pub plain_at_key : SortKey → PlainRow → Value
plain_at_key k r = item_at Null k r.values

-- in order by the keys
abbrev pub plain_ordered : PlainRel → List SortKey → Answer PlainRel
plain_ordered rel ks = plain_whole (record { columns = rel.columns; rows = sorted (keys_lt plain_at_key ks) rel.rows })

-- ---- over what is shown

-- the value in the column of a key, where it is known
abbrev pub known_at_key : SortKey → ShownRow → Option Value
known_at_key k r = item_at (Some Null) k r.values

-- the same, NULL where it isn't known
abbrev pub shown_at_key : SortKey → ShownRow → Value
shown_at_key k r = unwrap_or (known_at_key k r) Null

-- whether a row is placed by a value that isn't known
abbrev pub has_unknown_key : List SortKey → ShownRow → Bool
has_unknown_key ks r = list_any (λ k. is_none (known_at_key k r)) ks

-- in order where the order is certain
abbrev pub shown_ordered : ShownRel → List SortKey → ShownRel
shown_ordered rel ks =
    let loose = rel.is_loose || list_any (has_unknown_key ks) rel.rows in record {
      columns = rel.columns;
      rows = if loose then rel.rows else sorted (keys_lt shown_at_key ks) rel.rows;
      is_open = rel.is_open;
      is_loose = loose;
    }
