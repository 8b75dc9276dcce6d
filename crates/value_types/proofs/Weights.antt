-- The lengths of texts, and the parts of ids.
use Rattle.std.proofs.Common.{◌≡◌, List, ℕ, ◌∷◌, [], ◌++◌, ◌+◌, length, length-append, ap, sym, ◌∙◌, arith}
use Rattle.std.specs.Prelude.{decimal}
use Rattle.std.proofs.lemmas.Grind.{flat_map-append}
use Rattle.std.proofs.lemmas.Str.{chars_from_encodes}
use Rattle.value_types.specs.declared.value.Value.{Value}
use Rattle.value_types.specs.declared.row_id.RowId.{RowId, Rec, Named, Emit, Pair, Alone, First, Second, Key}
use Rattle.value_types.specs.declared.row_id.RowId.TheOpen.{RowId-F}
use Rattle.value_types.specs.declared.row_id.RowId.TheVariants.{rolls-Rec, rolls-Named, rolls-Emit, rolls-Pair, rolls-Alone, rolls-First, rolls-Second, rolls-Key}
use Rattle.value_types.specs.declared.row_id.RowId.TheFolds.{fold-roll-RowId}
use Rattle.value_types.specs.Text.{id, with_commas, parts, parts_form}
use Rattle.value_types.proofs.IdTexts.{id-Rec, id-Named, id-Emit, id-Pair, id-Alone, id-First, id-Second, id-Key}

pub ruleset lengths = (length-append, arith)

pub ruleset chars_weigh = (length-append, flat_map-append, chars_from_encodes, arith)

pub weight-Rec : (n : ℕ) → length (id (Rec n)) ≡ 1 + length (decimal n)
weight-Rec n = rw id-Rec (omega arith)

pub weight-Named : (n : List ℕ) → length (id (Named n)) ≡ 1 + length n
weight-Named n = rw id-Named (omega arith)

pub weight-Emit : (n : ℕ) → length (id (Emit n)) ≡ 1 + length (decimal n)
weight-Emit n = rw id-Emit (omega arith)

pub weight-Pair : (l r : RowId) → length (id (Pair l r)) ≡ length (id l) + length (id r) + 3
weight-Pair l r = rw id-Pair (grind (arith, length-append))

pub weight-Alone : (l : RowId) → length (id (Alone l)) ≡ length (id l) + 4
weight-Alone l = rw id-Alone (grind (arith, length-append))

pub weight-First : (i : RowId) → length (id (First i)) ≡ length (id i) + 1
weight-First i = rw id-First (omega arith)

pub weight-Second : (i : RowId) → length (id (Second i)) ≡ length (id i) + 1
weight-Second i = rw id-Second (omega arith)

pub weight-Key : (values : List Value) → length (id (Key values)) ≡ length (with_commas values) + 2
weight-Key values = rw id-Key (grind (arith, length-append))

pub ruleset weights = (weight-Rec, weight-Named, weight-Emit, weight-Pair, weight-Alone, weight-First, weight-Second, weight-Key, arith)

pub parts-Rec : (n : ℕ) → parts (Rec n) ≡ 1
unfolding parts
parts-Rec n = ap parts (sym (rolls-Rec n)) ∙ fold-roll-RowId ℕ parts_form (RowId-F.Rec n)

pub parts-Named : (n : List ℕ) → parts (Named n) ≡ 1
unfolding parts
parts-Named n = ap parts (sym (rolls-Named n)) ∙ fold-roll-RowId ℕ parts_form (RowId-F.Named n)

pub parts-Emit : (n : ℕ) → parts (Emit n) ≡ 1
unfolding parts
parts-Emit n = ap parts (sym (rolls-Emit n)) ∙ fold-roll-RowId ℕ parts_form (RowId-F.Emit n)

pub parts-Pair : (l r : RowId) → parts (Pair l r) ≡ parts l + parts r
unfolding parts
parts-Pair l r = ap parts (sym (rolls-Pair l r)) ∙ fold-roll-RowId ℕ parts_form (RowId-F.Pair l r)

pub parts-Alone : (l : RowId) → parts (Alone l) ≡ 1 + parts l
unfolding parts
parts-Alone l = ap parts (sym (rolls-Alone l)) ∙ fold-roll-RowId ℕ parts_form (RowId-F.Alone l)

pub parts-First : (i : RowId) → parts (First i) ≡ 1 + parts i
unfolding parts
parts-First i = ap parts (sym (rolls-First i)) ∙ fold-roll-RowId ℕ parts_form (RowId-F.First i)

pub parts-Second : (i : RowId) → parts (Second i) ≡ 1 + parts i
unfolding parts
parts-Second i = ap parts (sym (rolls-Second i)) ∙ fold-roll-RowId ℕ parts_form (RowId-F.Second i)

pub parts-Key : (values : List Value) → parts (Key values) ≡ 1
unfolding parts
parts-Key values = ap parts (sym (rolls-Key values)) ∙ fold-roll-RowId ℕ parts_form (RowId-F.Key values)

pub ruleset counts = (parts-Rec, parts-Named, parts-Emit, parts-Pair, parts-Alone, parts-First, parts-Second, parts-Key, arith)
