-- Texts of ids of other lengths.
use Rattle.std.proofs.Common.{◌≡◌, ◌≢◌, ℕ, ◌<◌, ◌-◌, ◌^◌, Bool, true, false, List, length, refl, ap, arith}
use Rattle.std.specs.Prelude.{min}
use Rattle.std.specs.Str.{bytes_eq}
use Rattle.std.proofs.lemmas.Slice.Eq.{bytes_eq-Decides}
use Rattle.value_types.specs.Text.{id}
use Rattle.value_types.specs.declared.row_id.RowId.{RowId}
use Rattle.row_edits.specs.ByText.{is_text}

-- an id whose text has another length, counted up to the last value of u64, doesn't have the text
pub other_length : (text : List ℕ) (i : RowId) → length text < 2 ^ 64 - 1 → (min (length (id i)) (2 ^ 64 - 1) ≢ length text) → is_text text i ≡ false
other_length text i short other = by (bytes_eq (id i) text) refl
  where
    same : length (id i) ≡ length text → ⊥
    same e = other (omega (arith, e, short))

    by : (b : Bool) → bytes_eq (id i) text ≡ b → b ≡ false
    by true e = absurd (same (ap length ((bytes_eq-Decides (id i) text).0 e)))
    by false e = refl
