-- Values and row ids as text.
use Rattle.std.specs.Prelude.{ℕ, suc, ◌+◌, ◌/◌, ◌%◌, ◌==◌, nat_lt, nat_le, Bool, not, ◌&&◌, if◌then◌else◌, ℤ, pos, negsuc, true, false, List, [], ◌∷◌, ◌++◌, codes, decimal}
use Rattle.std.specs.Fmt.{signed_decimal}
use Rattle.std.specs.List.{flat_map}
use Rattle.std.specs.Str.{chars}
use Rattle.std.specs.Prelude.{encode_utf8}
use Rattle.value_types.specs.declared.value.Value.{Value}
use Rattle.value_types.specs.declared.value.Value.TheVariants.{Null, Bool as Truth, Int, Fixed, Text}
use Rattle.value_types.specs.declared.row_id.RowId.{RowId}
use Rattle.value_types.specs.declared.row_id.RowId.TheOpen.{RowId-F}
use Rattle.value_types.specs.declared.row_id.RowId.TheFolds.{fold-RowId}

-- the character of a digit
abbrev pub digit : ℕ → ℕ
digit d = 48 + d

-- a number below 10,000 as four digits
abbrev pub four_digits : ℕ → List ℕ
four_digits n = digit (n / 1000) ∷ digit (n / 100 % 10) ∷ digit (n / 10 % 10) ∷ digit (n % 10) ∷ []

-- ten-thousandths as a number with four digits after its point
abbrev pub magnitude_text : ℕ → List ℕ
magnitude_text n = decimal (n / 10000) ++ 46 ∷ four_digits (n % 10000)

-- a Fixed, which counts ten-thousandths, as a number
abbrev pub fixed_text : ℤ → List ℕ
fixed_text (pos n) = magnitude_text n
fixed_text (negsuc n) = 45 ∷ magnitude_text (suc n)

-- the character of a digit of base 16
abbrev pub hex_digit : ℕ → ℕ
hex_digit d = if nat_lt d 10 then 48 + d else 87 + d

-- a character between double quotes
abbrev pub escaped : ℕ → List ℕ
escaped c =
    if c == 34 then 92 ∷ 34 ∷ []
    else (if c == 92 then 92 ∷ 92 ∷ []
    else (if c == 10 then 92 ∷ 110 ∷ []
    else (if c == 13 then 92 ∷ 114 ∷ []
    else (if c == 9 then 92 ∷ 116 ∷ []
    else (if nat_lt c 32 then 92 ∷ 117 ∷ 48 ∷ 48 ∷ hex_digit (c / 16) ∷ hex_digit (c % 16) ∷ []
    else encode_utf8 c)))))

-- what stands between the quotes
abbrev pub inner : List ℕ → List ℕ
inner t = flat_map escaped (chars t)

-- a text between double quotes
abbrev pub quoted : List ℕ → List ℕ
quoted t = 34 ∷ (inner t ++ 34 ∷ [])

-- a byte that stands between the quotes as it is
abbrev pub is_plain : ℕ → Bool
is_plain b = nat_le 32 b && not (b == 34) && not (b == 92)

-- the text by which a value is printed
abbrev pub literal : Value → List ℕ
literal Null = codes "null"
literal (Truth true) = codes "true"
literal (Truth false) = codes "false"
literal (Int n) = signed_decimal n
literal (Fixed n) = fixed_text n
literal (Text t) = quoted t

-- a Text's own bytes, else the literal text
abbrev pub plain : Value → List ℕ
plain (Text t) = t
plain Null = literal Null
plain (Truth b) = literal (Truth b)
plain (Int n) = literal (Int n)
plain (Fixed n) = literal (Fixed n)

-- each after a comma
abbrev pub after_commas : List Value → List ℕ
after_commas [] = []
after_commas (v ∷ vs) = 44 ∷ (literal v ++ after_commas vs)

-- the texts of these values, a comma between two
abbrev pub with_commas : List Value → List ℕ
with_commas [] = []
with_commas (v ∷ vs) = literal v ++ after_commas vs

-- the text of a row id whose inner ids have these texts
abbrev pub id_form : RowId-F (List ℕ) → List ℕ
id_form (RowId-F.Rec n) = 35 ∷ decimal n
id_form (RowId-F.Named n) = 64 ∷ n
id_form (RowId-F.Emit n) = 43 ∷ decimal n
id_form (RowId-F.Pair l r) = 40 ∷ (l ++ 44 ∷ (r ++ 41 ∷ []))
id_form (RowId-F.Alone l) = 40 ∷ (l ++ codes ",-)")
id_form (RowId-F.First i) = 60 ∷ i
id_form (RowId-F.Second i) = 62 ∷ i
id_form (RowId-F.Key values) = 91 ∷ (with_commas values ++ 93 ∷ [])

-- the text of a row id
unfoldable pub id : RowId → List ℕ
id = fold-RowId (List ℕ) id_form

-- the parts of an id whose inner ids have so many
abbrev pub parts_form : RowId-F ℕ → ℕ
parts_form (RowId-F.Rec n) = 1
parts_form (RowId-F.Named n) = 1
parts_form (RowId-F.Emit n) = 1
parts_form (RowId-F.Pair l r) = l + r
parts_form (RowId-F.Alone l) = 1 + l
parts_form (RowId-F.First i) = 1 + i
parts_form (RowId-F.Second i) = 1 + i
parts_form (RowId-F.Key values) = 1

-- the number of an id's parts
unfoldable pub parts : RowId → ℕ
parts = fold-RowId ℕ parts_form
