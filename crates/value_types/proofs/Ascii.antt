-- Names are ASCII.
use Rattle.std.proofs.Common.{◌≡◌, true, List, ℕ, length, ◌&&◌, ◌∷◌, [], ◌<◌, refl, arith, Result, Ok, Err}
use Rattle.std.specs.Prelude.{nat_le, IsOk, MatchResult}
use Rattle.std.specs.Bool.{IsTrue}
use Rattle.std.specs.Str.{IsUtf8, IsAscii}
use Rattle.std.specs.List.{list_all}
use Rattle.std.proofs.lemmas.Bool.{and_parts}
use Rattle.std.proofs.lemmas.Bool.Decides.{nat_tests}
use Rattle.std.proofs.lemmas.Str.{IsUtf8-from_ascii}
use Rattle.std.proofs.lemmas.Str.Ascii.{IsAscii-nil, IsAscii-cons}
use Rattle.value_types.specs.Names.{is_name, is_name_byte, is_letter}

name_byte : (b : ℕ) → is_name_byte b ≡ true → b < 128
name_byte b h = grind (arith, nat_tests)

letter : (b : ℕ) → is_letter b ≡ true → b < 128
letter b h = grind (arith, nat_tests)

name_bytes : (bs : List ℕ) → list_all is_name_byte bs ≡ true → IsAscii bs
name_bytes [] h = IsAscii-nil
name_bytes (b ∷ bs) h =
    let parts = and_parts (is_name_byte b) (list_all is_name_byte bs) h in
    IsAscii-cons b bs (name_byte b parts.0) (name_bytes bs parts.1)

-- the bytes of a name are a text
pub is_text : (bytes : List ℕ) → IsTrue (is_name bytes) → IsUtf8 bytes
is_text [] h = absurd (grind arith)
is_text (b ∷ bs) h =
    let short = and_parts (is_letter b && list_all is_name_byte bs) (nat_le (length bs) 31) h in
    let parts = and_parts (is_letter b) (list_all is_name_byte bs) short.0 in
    IsUtf8-from_ascii (b ∷ bs) (IsAscii-cons b bs (letter b parts.0) (name_bytes bs parts.1))

-- a text is read as one
pub read : {T E : Type 0} (r : Result T E) (bytes : List ℕ) (P : T → Type 0) (Q : E → Type 0) →
    IsUtf8 bytes → MatchResult r P (λ e. (¬ (IsUtf8 bytes)) × Q e) → IsOk r
read (Ok x) bytes P Q text h = refl
read (Err e) bytes P Q text h = absurd (h.0 text)
