-- Worked examples of the texts.
use Rattle.std.proofs.Common.{◌≡◌, refl, true, false, ◌∷◌, []}
use Rattle.std.specs.Prelude.{codes, pos, negsuc, Some, None}
use Rattle.std.specs.Fmt.{digits}
use Rattle.std.specs.Str.{chars}
use lib.Utf8.{encode}
use Rattle.value_types.specs.declared.value.Value.TheVariants.{Null, Bool as Truth, Int, Fixed, Text}
use Rattle.value_types.specs.declared.row_id.RowId.{Rec, Named, Emit, Pair, Alone, First, Second, Key}
use Rattle.value_types.specs.Names.{is_name}
use Rattle.value_types.specs.Numbers.{int_of, fixed_of, bool_of, widened}
use Rattle.value_types.specs.Text.{literal, plain, id, parts}
use Rattle.value_types.proofs.IdTexts.{id-Rec, id-Named, id-Emit, id-Pair, id-Alone, id-First, id-Second, id-Key}
use Rattle.value_types.proofs.Weights.{parts-Rec, parts-Named, parts-Emit, parts-Pair, parts-Alone, parts-First, parts-Second, parts-Key}

-- the literal text of each type
null : literal Null ≡ codes "null"
null = refl

yes : literal (Truth true) ≡ codes "true"
yes = refl

no : literal (Truth false) ≡ codes "false"
no = refl

zero : literal (Int (pos 0)) ≡ codes "0"
unfolding digits
zero = refl

negative : literal (Int (negsuc 41)) ≡ codes "-42"
unfolding digits
negative = refl

half : literal (Fixed (negsuc 4999)) ≡ codes "-0.5000"
unfolding digits
half = refl

smallest : literal (Fixed (pos 1)) ≡ codes "0.0001"
unfolding digits
smallest = refl

words : literal (Text (codes "a b")) ≡ codes "\"a b\""
unfolding chars encode
words = refl

-- each byte that is escaped, and two that stay: DEL and a character of two bytes
escapes : literal (Text (34 ∷ 92 ∷ 10 ∷ 13 ∷ 9 ∷ [])) ≡ codes "\"\\\"\\\\\\n\\r\\t\""
unfolding chars
escapes = refl

controls : literal (Text (0 ∷ 8 ∷ 27 ∷ 31 ∷ [])) ≡ codes "\"\\u0000\\u0008\\u001b\\u001f\""
unfolding chars
controls = refl

others : literal (Text (127 ∷ 195 ∷ 164 ∷ [])) ≡ 34 ∷ 127 ∷ 195 ∷ 164 ∷ 34 ∷ []
unfolding chars encode
others = refl

-- a Text as plain text has no quotes
bare : plain (Text (codes "a\"b")) ≡ codes "a\"b"
bare = refl

-- each kind of id
record_seven : id (Rec 7) ≡ codes "#7"
unfolding digits
record_seven = id-Rec 7

inserted : id (Named (codes "total")) ≡ codes "@total"
inserted = id-Named (codes "total")

emitted : id (Emit 12) ≡ codes "+12"
unfolding digits
emitted = id-Emit 12

joined : id (Pair (Rec 1) (Rec 2)) ≡ codes "(#1,#2)"
unfolding digits
joined = simp (id-Pair, id-Rec)

unmatched : id (Alone (Rec 3)) ≡ codes "(#3,-)"
unfolding digits
unmatched = simp (id-Alone, id-Rec)

sides : id (Pair (First (Rec 1)) (Second (Rec 1))) ≡ codes "(<#1,>#1)"
unfolding digits
sides = simp (id-Pair, id-First, id-Second, id-Rec)

group : id (Key (Null ∷ Text (codes "a") ∷ Fixed (pos 25000) ∷ [])) ≡ codes "[null,\"a\",2.5000]"
unfolding digits chars encode
group = id-Key (Null ∷ Text (codes "a") ∷ Fixed (pos 25000) ∷ [])

whole_group : id (Key []) ≡ codes "[]"
whole_group = id-Key []

-- the parts of ids
parts_of_one : parts (Key (Null ∷ Null ∷ [])) ≡ 1
parts_of_one = parts-Key (Null ∷ Null ∷ [])

parts_of_a_pair : parts (Pair (Alone (Rec 1)) (Pair (Rec 2) (Emit 3))) ≡ 4
parts_of_a_pair = simp (parts-Pair, parts-Alone, parts-Rec, parts-Emit)

parts_of_a_side : parts (First (Second (Named (codes "a")))) ≡ 3
parts_of_a_side = simp (parts-First, parts-Second, parts-Named)

-- names, and texts that are none
name : is_name (codes "a_1") ≡ true
name = refl

longest : is_name (codes "abcdefghijklmnopqrstuvwxyz012345") ≡ true
longest = refl

too_long : is_name (codes "abcdefghijklmnopqrstuvwxyz0123456") ≡ false
too_long = refl

digit_first : is_name (codes "1a") ≡ false
digit_first = refl

upper_case : is_name (codes "Main") ≡ false
upper_case = refl

no_name : is_name [] ≡ false
no_name = refl

-- numbers and truths, read
signed_int : int_of (codes "-007") ≡ Some (negsuc 6)
unfolding int_of
signed_int = refl

lone_sign : int_of (codes "+") ≡ None
unfolding int_of
lone_sign = refl

least : int_of (codes "-9223372036854775808") ≡ Some (negsuc 9223372036854775807)
unfolding int_of
least = refl

past_least : int_of (codes "-9223372036854775809") ≡ None
unfolding int_of
past_least = refl

short_fraction : fixed_of (codes "-0.5") ≡ Some (negsuc 4999)
unfolding fixed_of
short_fraction = refl

whole_fixed : fixed_of (codes "+12") ≡ Some (pos 120000)
unfolding fixed_of
whole_fixed = refl

point_alone : fixed_of (codes "1.") ≡ None
unfolding fixed_of
point_alone = refl

five_places : fixed_of (codes "1.23456") ≡ None
unfolding fixed_of
five_places = refl

any_case : bool_of (codes "fAlSe") ≡ Some false
unfolding bool_of
any_case = refl

no_truth : bool_of (codes "yes") ≡ None
unfolding bool_of
no_truth = refl

two : widened (pos 2) ≡ Some (pos 20000)
two = refl

too_wide : widened (pos 922337203685478) ≡ None
too_wide = refl
