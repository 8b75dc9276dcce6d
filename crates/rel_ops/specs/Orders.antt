-- What ORDER BY makes of rows, whatever way it is done.
use Rattle.std.specs.Prelude.{◌≡◌, Bool, List, Ok}
use Rattle.std.specs.List.Sorted.{IsSortedBy, IsStableBy, IsPermutation}
use Rattle.relations.specs.declared.parts.SortKey.{SortKey}
use Rattle.relations.specs.Rels.{RelData}
use Rattle.rel_ops.specs.Sort.{value_at_key, keys_lt, ordered}

-- ys is xs in order: none is less than the one before it, those that tie are in their order, and none is lost or added
pub record IsStableSort {X : Type 0} (lt : X → X → Bool) (xs ys : List X) : Type 0 where
  pub sorted : IsSortedBy lt ys
  pub stable : IsStableBy lt xs ys
  pub moves : IsPermutation xs ys

-- the rows of the result are those there were, in order by the keys
abbrev pub SortOrders : List SortKey → Type 0
SortOrders keys = (rel out : RelData) → ordered rel keys ≡ Ok out → IsStableSort (keys_lt value_at_key keys) rel.rows out.rows
