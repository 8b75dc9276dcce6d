-- Worked examples of expressions, as docs/EXPRESSIONS.md has them.
use Rattle.std.proofs.Common.{◌≡◌, ℕ, refl, true, false, List, ◌∷◌, [], Ok, Err}
use Rattle.std.specs.Prelude.{codes, pos, Option, Some, None}
use Rattle.value_types.specs.declared.value.ColumnType.TheVariants as kind
use Rattle.value_types.specs.declared.value.Value.{Value}
use Rattle.value_types.specs.declared.value.Value.TheVariants.{Null, Bool as Truth, Int, Fixed}
use Rattle.expr_lang.specs.declared.ops.BinaryOp.TheVariants as binary
use Rattle.dataset_types.specs.Picks.{pick_of}
use Rattle.dataset_types.specs.declared.picks.Choice.TheVariants as choice
use Rattle.dataset_types.specs.declared.picks.Site.TheVariants as site
use Rattle.cell_errors.specs.declared.fault.CellError.TheVariants as error
use Rattle.cell_errors.specs.Answers.{Answer}
use Rattle.cell_errors.specs.Seen.{Seen, seen_then, unmarked}
use Rattle.expr_meaning.specs.declared.bindings.Binding.{Binding}
use Rattle.expr_meaning.specs.declared.expr_type.ExprType.{ExprType}
use Rattle.expr_meaning.specs.declared.expr_type.ExprType.TheVariants.{Null as Unknown, Of}
use Rattle.expr_meaning.specs.Names.{Name}
use Rattle.expr_meaning.specs.Picked.{picked}
use Rattle.expr_meaning.specs.Forms.{applied, one_of, first_arm, first_value, or_null}
use Rattle.expr_meaning.specs.Meaning.{find_marked, caveat_marked}
use Rattle.expr_meaning.specs.Types.{binary_typing, agreed, list_typing}

-- a value with a mark, and an error
abbrev marked : Value → Seen Value
marked v = record { marked = true; answer = Ok v }

abbrev plainly : Value → Seen Value
plainly v = unmarked (Ok v)

abbrev wrong : Seen Value
wrong = unmarked (Err error.ZeroDivisor)

-- ---- what is looked at

-- FALSE AND 1 / 0 is FALSE
and_ends : applied (Seen Value) seen_then unmarked binary.And (plainly (Truth false)) wrong ≡ plainly (Truth false)
and_ends = refl

-- TRUE OR x doesn't look at a marked x, FALSE OR x does
or_ends : applied (Seen Value) seen_then unmarked binary.Or (plainly (Truth true)) (marked (Truth true)) ≡ plainly (Truth true)
or_ends = refl

or_goes_on : applied (Seen Value) seen_then unmarked binary.Or (plainly (Truth false)) (marked (Truth true)) ≡ marked (Truth true)
or_goes_on = refl

-- 2 IN (NULL, 2) is TRUE, 1 IN (NULL, 2) is NULL
in_later : one_of (Seen Value) seen_then unmarked (plainly (Int (pos 2))) (plainly Null ∷ plainly (Int (pos 2)) ∷ []) false ≡ plainly (Truth true)
in_later = refl

in_unknown : one_of (Seen Value) seen_then unmarked (plainly (Int (pos 1))) (plainly Null ∷ plainly (Int (pos 2)) ∷ []) false ≡ plainly Null
in_unknown = refl

in_none_but_null : one_of (Seen Value) seen_then unmarked (plainly Null) (plainly (Int (pos 2)) ∷ []) false ≡ plainly Null
in_none_but_null = refl

-- NOT IN is NOT of it
not_in_later : one_of (Seen Value) seen_then unmarked (plainly (Int (pos 2))) (plainly Null ∷ plainly (Int (pos 2)) ∷ []) true ≡ plainly (Truth false)
not_in_later = refl

not_in_unknown : one_of (Seen Value) seen_then unmarked (plainly (Int (pos 1))) (plainly Null ∷ plainly (Int (pos 2)) ∷ []) true ≡ plainly Null
not_in_unknown = refl

-- 1 IN (1, 1 / 0) doesn't look at the rest, and a marked item that isn't equal marks the answer
in_ends : one_of (Seen Value) seen_then unmarked (plainly (Int (pos 1))) (plainly (Int (pos 1)) ∷ wrong ∷ []) false ≡ plainly (Truth true)
in_ends = refl

in_marked : one_of (Seen Value) seen_then unmarked (plainly (Int (pos 1))) (marked (Int (pos 2)) ∷ plainly (Int (pos 1)) ∷ []) false ≡ marked (Truth true)
in_marked = refl

-- an empty list, which no text gives
in_none : one_of (Seen Value) seen_then unmarked (plainly Null) [] false ≡ plainly (Truth false)
in_none = refl

-- a CASE looks at the branch of its first TRUE condition alone, and a marked condition marks it
case_first : first_arm (Seen Value) seen_then unmarked ((marked (Truth true), plainly (Int (pos 1))) ∷ []) wrong ≡ marked (Int (pos 1))
case_first = refl

case_other : first_arm (Seen Value) seen_then unmarked ((plainly Null, marked (Int (pos 1))) ∷ []) (plainly (Int (pos 2))) ≡ plainly (Int (pos 2))
case_other = refl

-- where no condition is TRUE and there is no ELSE it is NULL
case_none : first_arm (Seen Value) seen_then unmarked ((plainly (Truth false), wrong) ∷ []) (or_null (Seen Value) seen_then unmarked None) ≡ plainly Null
case_none = refl

-- COALESCE stops at the first value
first_stops : first_value (Seen Value) seen_then unmarked (plainly Null ∷ plainly (Int (pos 1)) ∷ wrong ∷ []) ≡ plainly (Int (pos 1))
first_stops = refl

first_of_none : first_value (Seen Value) seen_then unmarked (plainly Null ∷ marked Null ∷ []) ≡ marked Null
first_of_none = refl

-- a comparison is marked by either side
compared_marked : applied (Seen Value) seen_then unmarked binary.Equal (plainly (Int (pos 1))) (marked (Int (pos 2))) ≡ marked (Truth false)
compared_marked = refl

-- the mark of an operand stays beside an error
marked_error : applied (Seen Value) seen_then unmarked binary.Divide (marked (Int (pos 1))) (plainly (Int (pos 0))) ≡ record { marked = true; answer = Err error.ZeroDivisor }
marked_error = refl

-- ---- CAVEAT

-- the last pick for the call counts, and it is the value where it fits
pick_counts : caveat_marked (pick_of 1 (site.Call 1) (choice.Value (Int (pos 8))) ∷ pick_of 1 (site.Call 1) (choice.Value (Int (pos 9))) ∷ []) 1 1 (plainly (Int (pos 7))) ≡ marked (Int (pos 9))
pick_counts = refl

-- a pick isn't widened, and the last one counts even where it doesn't fit
pick_stays : picked (pick_of 1 (site.Call 1) (choice.Value (Fixed (pos 8))) ∷ pick_of 1 (site.Call 1) (choice.Value (Int (pos 9))) ∷ []) 1 1 (Fixed (pos 7)) ≡ Fixed (pos 7)
pick_stays = refl

pick_null : picked (pick_of 1 (site.Call 2) (choice.Value Null) ∷ []) 1 2 (Truth true) ≡ Null
pick_null = refl

pick_of_null : picked (pick_of 1 (site.Call 1) (choice.Value (Int (pos 8))) ∷ []) 1 1 Null ≡ Null
pick_of_null = refl

-- ---- names

abbrev named : Option Name → Name → ℕ → Binding
named q name n = record { qualifier = q; name = name; value = record { value = Int (pos n); marked = false } }

-- a is the one without a qualifier, b is in two tables
abbrev row : List Binding
row = named None (codes "a") 1 ∷ named (Some (codes "t")) (codes "a") 2 ∷ named (Some (codes "t")) (codes "b") 3 ∷ named (Some (codes "u")) (codes "b") 4 ∷ []

bare : find_marked row None (codes "a") ≡ plainly (Int (pos 1))
bare = refl

qualified : find_marked row (Some (codes "t")) (codes "a") ≡ plainly (Int (pos 2))
qualified = refl

two_of_it : find_marked row None (codes "b") ≡ unmarked (Err error.NoColumn)
two_of_it = refl

none_of_it : find_marked row (Some (codes "u")) (codes "a") ≡ unmarked (Err error.NoColumn)
none_of_it = refl

-- ---- types

abbrev of_int : Answer ExprType
of_int = Ok (Of kind.Int)

abbrev no_column : Answer ExprType
no_column = Err error.NoColumn

-- 1 AND nocol is a fault of types, 'x' + nocol one of names
and_first : binary_typing binary.And of_int no_column ≡ Err error.TypeFault
and_first = refl

plus_later : binary_typing binary.Add (Ok (Of kind.Text)) no_column ≡ no_column
plus_later = refl

-- COALESCE('x', 1, nocol): all are typed before they are compared
compared_last : agreed (Ok Unknown) (Ok (Of kind.Text) ∷ of_int ∷ no_column ∷ []) ≡ no_column
compared_last = refl

-- 1 IN ('x', nocol): each is compared in its turn
compared_at_once : list_typing (Of kind.Int) (Ok (Of kind.Text) ∷ no_column ∷ []) ≡ Err error.TypeFault
compared_at_once = refl
