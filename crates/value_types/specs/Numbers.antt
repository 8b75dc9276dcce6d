-- Numbers and truths as text.
use Rattle.std.specs.Prelude.{ℕ, ◌-◌, ◌*◌, ◌+◌, ◌^◌, ℤ, pos, negsuc, neg_ℤ, ◌*ℤ◌, nat_lt, nat_le, ◌==◌, ◌&&◌, ◌||◌, Bool, true, false, if◌then◌else◌, List, [], ◌∷◌, length, map, drop, codes, fold, take_while, Option, Some, None}
use Rattle.std.specs.List.{list_all, prefix_len}
use Rattle.std.specs.Str.{bytes_eq}
use Rattle.std.specs.Char.{to_ascii_lowercase}
use Rattle.value_types.specs.Names.{is_digit}

-- `-` in front
abbrev pub is_negative : List ℕ → Bool
is_negative [] = false
is_negative (b ∷ bs) = b == 45

-- the text without a `+` or `-` in front
abbrev pub unsigned : List ℕ → List ℕ
unsigned [] = []
unsigned (b ∷ bs) = if b == 43 || b == 45 then bs else b ∷ bs

-- one or more digits
abbrev pub are_digits : List ℕ → Bool
are_digits [] = false
are_digits (b ∷ bs) = is_digit b && list_all is_digit bs

-- the number that digits write
abbrev pub number : List ℕ → ℕ
number = fold (λ n digit. n * 10 + (digit - 48)) 0

-- a size with its sign
abbrev pub signed : Bool → ℕ → ℤ
signed true size = neg_ℤ (pos size)
signed false size = pos size

-- whether an i64 has the number
abbrev pub fits_i64 : ℤ → Bool
fits_i64 (pos n) = nat_lt n (2 ^ 63)
fits_i64 (negsuc n) = nat_lt n (2 ^ 63)

-- the number, where an i64 has it
abbrev pub in_i64 : ℤ → Option ℤ
in_i64 n = if fits_i64 n then Some n else None

-- an Int: a sign or none, and one or more digits
unfoldable pub int_of : List ℕ → Option ℤ
int_of text =
    if are_digits (unsigned text)
    then in_i64 (signed (is_negative text) (number (unsigned text)))
    else None

-- the digits in front
abbrev pub whole : List ℕ → List ℕ
whole = take_while is_digit

-- what follows them
abbrev pub after_whole : List ℕ → List ℕ
after_whole text = drop (prefix_len is_digit text) text

-- the ten-thousandths after the whole part: 0 where it ends the text, or those of a point and one to four digits
abbrev pub fraction : List ℕ → Option ℕ
fraction [] = Some 0
fraction (b ∷ ds) =
    if b == 46 && are_digits ds && nat_le (length ds) 4
    then Some (number ds * 10 ^ (4 - length ds))
    else None

-- a whole part and its ten-thousandths as one count
abbrev pub counted : Bool → ℕ → Option ℕ → Option ℤ
counted negative n None = None
counted negative n (Some part) = in_i64 (signed negative (n * 10000 + part))

-- a Fixed: a sign or none, one or more digits, and maybe a point and one to four digits
unfoldable pub fixed_of : List ℕ → Option ℤ
fixed_of text =
    if are_digits (whole (unsigned text))
    then counted (is_negative text) (number (whole (unsigned text))) (fraction (after_whole (unsigned text)))
    else None

-- a Bool: `true` or `false` in any ASCII case
unfoldable pub bool_of : List ℕ → Option Bool
bool_of text =
    if bytes_eq (map to_ascii_lowercase text) (codes "true") then Some true
    else (if bytes_eq (map to_ascii_lowercase text) (codes "false") then Some false
    else None)

-- an Int as a Fixed, where the count fits
abbrev pub widened : ℤ → Option ℤ
widened n = in_i64 (n *ℤ pos 10000)
