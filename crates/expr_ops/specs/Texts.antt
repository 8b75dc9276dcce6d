-- Texts: their characters, LIKE, TRIM, and texts joined.
use Rattle.std.specs.Prelude.{ℕ, pos, ◌==◌, ◌||◌, ◌&&◌, nat_le, Bool, true, false, Ok, Err, if◌then◌else◌, List, [], ◌∷◌, ◌++◌, length}
use Rattle.std.specs.Str.{chars}
use Rattle.value_types.specs.Text.{plain}
use Rattle.value_types.specs.declared.value.Value.{Value}
use Rattle.value_types.specs.declared.value.Value.TheVariants.{Null, Bool as Truth, Int, Fixed, Text}
use Rattle.cell_errors.specs.declared.fault.CellError.TheVariants as error
use Rattle.cell_errors.specs.Answers.{Answer}
use Rattle.expr_ops.specs.Truths.{is_null}
use Rattle.expr_ops.specs.Arithmetic.{null_where}

-- a Text or NULL
abbrev pub is_text : Value → Bool
is_text Null = true
is_text (Truth b) = false
is_text (Int n) = false
is_text (Fixed n) = false
is_text (Text t) = true

-- whether the text has nothing left
abbrev pub is_done : List ℕ → Bool
is_done [] = true
is_done (c ∷ text) = false

-- whether the rest passes the test from some place on
abbrev pub somewhere : (List ℕ → Bool) → List ℕ → Bool
somewhere test [] = test []
somewhere test (c ∷ text) = test (c ∷ text) || somewhere test text

-- whether there is a character that is wanted, and the rest passes the test
abbrev pub after_one : ℕ → (List ℕ → Bool) → List ℕ → Bool
after_one wanted test [] = false
after_one wanted test (c ∷ text) = (wanted == 95 || wanted == c) && test text

-- whether the text is one of the pattern: `%` stands for any run of characters, `_` for one, all else for itself
abbrev pub matches : List ℕ → List ℕ → Bool
matches [] text = is_done text
matches (c ∷ pattern) text =
    if c == 37 then somewhere (matches pattern) text else after_one c (matches pattern) text

-- LIKE
abbrev pub like : Value → Value → Answer Value
like (Text text) (Text pattern) = Ok (Truth (matches (chars pattern) (chars text)))
like v w = null_where (is_text v && is_text w)

-- LENGTH, in characters
abbrev pub length_of : Value → Answer Value
length_of Null = Ok Null
length_of (Text t) = Ok (Int (pos (length (chars t))))
length_of (Truth b) = Err error.TypeFault
length_of (Int n) = Err error.TypeFault
length_of (Fixed n) = Err error.TypeFault

-- the text without the spaces in front
abbrev pub without_front : List ℕ → List ℕ
without_front [] = []
without_front (b ∷ bs) = if b == 32 then without_front bs else b ∷ bs

-- a byte before the rest, but nothing where a space comes before an empty rest
abbrev pub onto : Bool → ℕ → List ℕ → List ℕ
onto true b [] = []
onto true b (c ∷ cs) = b ∷ c ∷ cs
onto false b rest = b ∷ rest

-- the text without the spaces at the end
abbrev pub without_end : List ℕ → List ℕ
without_end [] = []
without_end (b ∷ bs) = onto (b == 32) b (without_end bs)

-- the text without the spaces at both ends
abbrev pub stripped : List ℕ → List ℕ
stripped t = without_end (without_front t)

-- TRIM
abbrev pub trimmed : Value → Answer Value
trimmed Null = Ok Null
trimmed (Text t) = Ok (Text (stripped t))
trimmed (Truth b) = Err error.TypeFault
trimmed (Int n) = Err error.TypeFault
trimmed (Fixed n) = Err error.TypeFault

-- a Text of at most 65,536 bytes
abbrev pub limited : List ℕ → Answer Value
limited t = if nat_le (length t) 65536 then Ok (Text t) else Err error.TooLarge

-- `||`: the plain texts, joined
abbrev pub joined : Value → Value → Answer Value
joined v w = if is_null v || is_null w then Ok Null else limited (plain v ++ plain w)
