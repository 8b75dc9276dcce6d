-- The text of each kind of id.
use Rattle.std.proofs.Common.{◌≡◌, Bool, true, false, List, ℕ, ◌∷◌, [], ◌++◌, append_assoc, ap, sym, ◌∙◌}
use Rattle.std.specs.Prelude.{codes, decimal}
use Rattle.value_types.specs.declared.value.Value.{Value}
use Rattle.value_types.specs.declared.row_id.RowId.{RowId, Rec, Named, Emit, Pair, Alone, First, Second, Key}
use Rattle.value_types.specs.declared.row_id.RowId.TheOpen.{RowId-F}
use Rattle.value_types.specs.declared.row_id.RowId.TheVariants.{rolls-Rec, rolls-Named, rolls-Emit, rolls-Pair, rolls-Alone, rolls-First, rolls-Second, rolls-Key}
use Rattle.value_types.specs.declared.row_id.RowId.TheFolds.{fold-roll-RowId}
use Rattle.value_types.specs.Text.{id, id_form, with_commas, after_commas}

pub id-Rec : (n : ℕ) → id (Rec n) ≡ 35 ∷ decimal n
unfolding id
id-Rec n = ap id (sym (rolls-Rec n)) ∙ fold-roll-RowId (List ℕ) id_form (RowId-F.Rec n)

pub id-Named : (n : List ℕ) → id (Named n) ≡ 64 ∷ n
unfolding id
id-Named n = ap id (sym (rolls-Named n)) ∙ fold-roll-RowId (List ℕ) id_form (RowId-F.Named n)

pub id-Emit : (n : ℕ) → id (Emit n) ≡ 43 ∷ decimal n
unfolding id
id-Emit n = ap id (sym (rolls-Emit n)) ∙ fold-roll-RowId (List ℕ) id_form (RowId-F.Emit n)

pub id-Pair : (l r : RowId) → id (Pair l r) ≡ 40 ∷ (id l ++ 44 ∷ (id r ++ 41 ∷ []))
unfolding id
id-Pair l r = ap id (sym (rolls-Pair l r)) ∙ fold-roll-RowId (List ℕ) id_form (RowId-F.Pair l r)

pub id-Alone : (l : RowId) → id (Alone l) ≡ 40 ∷ (id l ++ codes ",-)")
unfolding id
id-Alone l = ap id (sym (rolls-Alone l)) ∙ fold-roll-RowId (List ℕ) id_form (RowId-F.Alone l)

pub id-First : (i : RowId) → id (First i) ≡ 60 ∷ id i
unfolding id
id-First i = ap id (sym (rolls-First i)) ∙ fold-roll-RowId (List ℕ) id_form (RowId-F.First i)

pub id-Second : (i : RowId) → id (Second i) ≡ 62 ∷ id i
unfolding id
id-Second i = ap id (sym (rolls-Second i)) ∙ fold-roll-RowId (List ℕ) id_form (RowId-F.Second i)

pub id-Key : (values : List Value) → id (Key values) ≡ 91 ∷ (with_commas values ++ 93 ∷ [])
unfolding id
id-Key values = ap id (sym (rolls-Key values)) ∙ fold-roll-RowId (List ℕ) id_form (RowId-F.Key values)

pub ruleset id_texts = (id-Rec, id-Named, id-Emit, id-Pair, id-Alone, id-First, id-Second, id-Key, append_assoc)

-- what is left to write of a list
abbrev pub left_of : Bool → List Value → List ℕ
left_of true = with_commas
left_of false = after_commas
