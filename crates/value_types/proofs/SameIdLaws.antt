-- The test of two row ids, kind by kind.
use Rattle.std.proofs.Common.{◌≡◌, List, ℕ, ap, sym, ◌∙◌}
use Rattle.value_types.specs.declared.value.Value.{Value}
use Rattle.value_types.specs.declared.row_id.RowId.{RowId, out-RowId, Rec, Named, Emit, Pair, Alone, First, Second, Key}
use Rattle.value_types.specs.declared.row_id.RowId.TheOpen.{RowId-F}
use Rattle.value_types.specs.declared.row_id.RowId.TheVariants.{rolls-Rec, rolls-Named, rolls-Emit, rolls-Pair, rolls-Alone, rolls-First, rolls-Second, rolls-Key, outs-Rec, outs-Named, outs-Emit, outs-Pair, outs-Alone, outs-First, outs-Second, outs-Key}
use Rattle.value_types.specs.SameIds.{same_form, same_id, same_roll}

pub same-Rec : (m : ℕ) (b : RowId) → same_id (Rec m) b ≡ same_form (RowId-F.Rec m) (out-RowId b)
same-Rec m b = ap (λ a. same_id a b) (sym (rolls-Rec m)) ∙ same_roll (RowId-F.Rec m) b

pub same-Named : (n : List ℕ) (b : RowId) → same_id (Named n) b ≡ same_form (RowId-F.Named n) (out-RowId b)
same-Named n b = ap (λ a. same_id a b) (sym (rolls-Named n)) ∙ same_roll (RowId-F.Named n) b

pub same-Emit : (m : ℕ) (b : RowId) → same_id (Emit m) b ≡ same_form (RowId-F.Emit m) (out-RowId b)
same-Emit m b = ap (λ a. same_id a b) (sym (rolls-Emit m)) ∙ same_roll (RowId-F.Emit m) b

pub same-Pair : (l r b : RowId) → same_id (Pair l r) b ≡ same_form (RowId-F.Pair (same_id l) (same_id r)) (out-RowId b)
same-Pair l r b = ap (λ a. same_id a b) (sym (rolls-Pair l r)) ∙ same_roll (RowId-F.Pair l r) b

pub same-Alone : (l b : RowId) → same_id (Alone l) b ≡ same_form (RowId-F.Alone (same_id l)) (out-RowId b)
same-Alone l b = ap (λ a. same_id a b) (sym (rolls-Alone l)) ∙ same_roll (RowId-F.Alone l) b

pub same-First : (i b : RowId) → same_id (First i) b ≡ same_form (RowId-F.First (same_id i)) (out-RowId b)
same-First i b = ap (λ a. same_id a b) (sym (rolls-First i)) ∙ same_roll (RowId-F.First i) b

pub same-Second : (i b : RowId) → same_id (Second i) b ≡ same_form (RowId-F.Second (same_id i)) (out-RowId b)
same-Second i b = ap (λ a. same_id a b) (sym (rolls-Second i)) ∙ same_roll (RowId-F.Second i) b

pub same-Key : (vs : List Value) (b : RowId) → same_id (Key vs) b ≡ same_form (RowId-F.Key vs) (out-RowId b)
same-Key vs b = ap (λ a. same_id a b) (sym (rolls-Key vs)) ∙ same_roll (RowId-F.Key vs) b

pub ruleset same_ids = (same-Rec, same-Named, same-Emit, same-Pair, same-Alone, same-First, same-Second, same-Key, outs-Rec, outs-Named, outs-Emit, outs-Pair, outs-Alone, outs-First, outs-Second, outs-Key)
