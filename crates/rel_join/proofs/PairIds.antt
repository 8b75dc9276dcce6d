-- The ids of joined rows: each says of which left row it is, and of which right row.
use Rattle.std.proofs.Common.{◌≡◌, Option, Some, None, sym, ap, ◌∙◌}
use Rattle.value_types.specs.declared.row_id.RowId.{RowId, Pair, Alone, out-RowId}
use Rattle.value_types.specs.declared.row_id.RowId.TheOpen.{RowId-F}
use Rattle.value_types.specs.declared.row_id.RowId.TheVariants.{outs-Pair, outs-Alone}

-- the left row of an id
abbrev left_out : RowId-F RowId → Option RowId
left_out (RowId-F.Rec n) = None
left_out (RowId-F.Named n) = None
left_out (RowId-F.Emit n) = None
left_out (RowId-F.Pair l r) = Some l
left_out (RowId-F.Alone l) = Some l
left_out (RowId-F.First i) = None
left_out (RowId-F.Second i) = None
left_out (RowId-F.Key vs) = None

-- the right row of an id
abbrev right_out : RowId-F RowId → Option RowId
right_out (RowId-F.Rec n) = None
right_out (RowId-F.Named n) = None
right_out (RowId-F.Emit n) = None
right_out (RowId-F.Pair l r) = Some r
right_out (RowId-F.Alone l) = None
right_out (RowId-F.First i) = None
right_out (RowId-F.Second i) = None
right_out (RowId-F.Key vs) = None

abbrev pub left_of : RowId → Option RowId
left_of i = left_out (out-RowId i)

abbrev pub right_of : RowId → Option RowId
right_of i = right_out (out-RowId i)

pub left_of_pair : (l r : RowId) → left_of (Pair l r) ≡ Some l
left_of_pair l r = ap left_out (outs-Pair l r)

pub left_of_alone : (l : RowId) → left_of (Alone l) ≡ Some l
left_of_alone l = ap left_out (outs-Alone l)

pub right_of_pair : (l r : RowId) → right_of (Pair l r) ≡ Some r
right_of_pair l r = ap right_out (outs-Pair l r)

pub some_id : (a b : RowId) → Some a ≡ Some b → a ≡ b
some_id a b e = cc

-- pairs of one left row are as distinct as their right rows
pub pair_apart : (l a b : RowId) → Pair l a ≡ Pair l b → a ≡ b
pair_apart l a b e = some_id a b (sym (right_of_pair l a) ∙ (ap right_of e ∙ right_of_pair l b))
