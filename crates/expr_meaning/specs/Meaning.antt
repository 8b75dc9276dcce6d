-- What an expression means: the forms, read without marks, with marks, and over what is known. A reading is a function
-- of the setting in which the expression stands.
use Rattle.std.specs.Prelude.{ℕ, Bool, true, false, List, [], map, length, Ok, Err, Option, Some, None, option_map, pos}
use Rattle.value_types.specs.declared.value.Value.{Value}
use Rattle.value_types.specs.declared.value.Value.TheVariants.{Int}
use Rattle.expr_lang.specs.declared.expr.Expr.{Expr}
use Rattle.expr_lang.specs.declared.expr.Expr.TheOpen.{Expr-F, Arm-F}
use Rattle.expr_lang.specs.declared.expr.Expr.TheFolds.{fold-Expr}
use Rattle.expr_ops.specs.declared.aggregates.Aggregate.{Aggregate}
use Rattle.expr_ops.specs.Aggregates.{aggregate_of}
use Rattle.dataset_types.specs.declared.picks.Pick.{Pick}
use Rattle.cell_errors.specs.declared.fault.CellError.TheVariants as error
use Rattle.cell_errors.specs.Answers.{Answer, and_then}
use Rattle.cell_errors.specs.Seen.{Seen, after, seen_then, unmarked}
use Rattle.expr_meaning.specs.declared.bindings.Binding.{Binding}
use Rattle.expr_meaning.specs.Names.{Name, meant}
use Rattle.expr_meaning.specs.Picked.{picked}
use Rattle.expr_meaning.specs.Known.{Known, known_then}
use Rattle.expr_meaning.specs.Settings.{PlainBinding, KnownBinding, PlainSetting, MarkedSetting, KnownSetting, at_row, at_plain_row, at_known_row}
use Rattle.expr_meaning.specs.Forms.{form, all_then}

-- an arm of a CASE: what its condition gives, and what its answer gives
abbrev pub arm_of : (A : Type 0) → Arm-F A (A × A) → A × A
arm_of A a = (a.condition, a.answer)

-- ---- without marks

-- what an expression gives in each setting, without marks
abbrev pub Plain : Type 0
Plain = PlainSetting → Answer Value

-- a look at the first, and then at the next, from the value of the first
abbrev pub plain_then : Plain → (Value → Plain) → Plain
plain_then x f = λ s. and_then (x s) (λ v. f v s)

-- what a name stands for
abbrev pub find_plain : List PlainBinding → Option Name → Name → Answer Value
find_plain row q name = and_then (meant (λ b. b.qualifier) (λ b. b.name) q name row) (λ b. Ok b.value)

-- the value, or the one that is picked for it
abbrev pub caveat_plain : List Pick → ℕ → ℕ → Answer Value → Answer Value
caveat_plain picks cell call x = and_then x (λ v. Ok (picked picks cell call v))

-- COUNT(*), which stands in groups alone
abbrev pub count_plain : {A : Type 0} → Option (List A) → Answer Value
count_plain None = Err error.TypeFault
count_plain (Some rows) = Ok (Int (pos (length rows)))

-- an aggregate of what its operand gives in each row of the group
abbrev pub over_plain : Aggregate → Plain → Option (List (List PlainBinding)) → Answer Value
over_plain op x None = Err error.TypeFault
over_plain op x (Some rows) = all_then (Answer Value) and_then (λ a. a) (map (λ r. x (at_plain_row r)) rows) [] (aggregate_of op)

-- what each form gives without marks
abbrev pub plain_form : List Pick → ℕ → Expr-F Plain (Plain × Plain) → Plain
plain_form picks cell = form Plain plain_then (λ a s. a) (λ q name s. find_plain s.row q name)
    (λ call x s. caveat_plain picks cell call (x s)) (λ s. count_plain s.group) (λ op x s. over_plain op x s.group)

-- what an expression gives without marks
unfoldable pub plain_meaning : List Pick → ℕ → Expr → Plain
plain_meaning picks cell = fold-Expr Plain (Plain × Plain) (plain_form picks cell) (arm_of Plain)

-- ---- with marks

-- what an expression gives in each setting, with marks
abbrev pub Reading : Type 0
Reading = MarkedSetting → Seen Value

-- a look at the first, and then at the next, from the value of the first
abbrev pub read_then : Reading → (Value → Reading) → Reading
read_then x f = λ s. seen_then (x s) (λ v. f v s)

-- what a binding gives
abbrev pub seen_of : Answer Binding → Seen Value
seen_of (Ok b) = record { marked = b.value.marked; answer = Ok b.value.value }
seen_of (Err e) = record { marked = false; answer = Err e }

-- the binding that a name stands for
abbrev pub find : List Binding → Option Name → Name → Answer Binding
find row q name = meant (λ b. b.qualifier) (λ b. b.name) q name row

-- what a name stands for, with its mark
abbrev pub find_marked : List Binding → Option Name → Name → Seen Value
find_marked row q name = seen_of (find row q name)

-- a value that was looked at for a CAVEAT is marked
abbrev pub caveat_marked : List Pick → ℕ → ℕ → Seen Value → Seen Value
caveat_marked picks cell call x = seen_then x (λ v. record { marked = true; answer = Ok (picked picks cell call v) })

-- the mark of a group, where there is one
abbrev pub mark_of : {A : Type 0} → Option (List A) → Bool → Bool
mark_of None m = false
mark_of (Some rows) m = m

-- COUNT(*), with the mark of the group
abbrev pub count_marked : {A : Type 0} → Option (List A) → Bool → Seen Value
count_marked group m = record { marked = mark_of group m; answer = count_plain group }

-- an aggregate, with the mark of the group and those of its operand in each row
abbrev pub over_marked : Aggregate → Reading → Option (List (List Binding)) → Bool → Seen Value
over_marked op x None m = unmarked (Err error.TypeFault)
over_marked op x (Some rows) m = after m (all_then (Seen Value) seen_then unmarked (map (λ r. x (at_row r)) rows) [] (aggregate_of op))

-- what each form gives with marks
abbrev pub marked_form : List Pick → ℕ → Expr-F Reading (Reading × Reading) → Reading
marked_form picks cell = form Reading read_then (λ a s. unmarked a) (λ q name s. find_marked s.row q name)
    (λ call x s. caveat_marked picks cell call (x s)) (λ s. count_marked s.group s.marked) (λ op x s. over_marked op x s.group s.marked)

-- what an expression gives with marks
unfoldable pub marked_meaning : List Pick → ℕ → Expr → Reading
marked_meaning picks cell = fold-Expr Reading (Reading × Reading) (marked_form picks cell) (arm_of Reading)

-- the same, the setting first
unfoldable pub marked_at : MarkedSetting → List Pick → ℕ → Expr → Seen Value
marked_at s picks cell e = marked_meaning picks cell e s

-- an aggregate of an expression
unfoldable pub over_at : Aggregate → MarkedSetting → List Pick → ℕ → Expr → Seen Value
over_at op s picks cell e = over_marked op (λ r. marked_at r picks cell e) s.group s.marked

-- ---- over what is known

-- what is known of an expression in each setting
abbrev pub KnownReading : Type 0
KnownReading = KnownSetting → Known Value

-- a look at the first, and then at the next, from the value of the first
abbrev pub known_read_then : KnownReading → (Value → KnownReading) → KnownReading
known_read_then x f = λ s. known_then (x s) (λ v. f v s)

-- what a known binding gives
abbrev pub known_of : Answer KnownBinding → Known Value
known_of (Ok b) = option_map (λ v. Ok v) b.value
known_of (Err e) = Some (Err e)

-- what is known of what a name stands for
abbrev pub find_known : List KnownBinding → Option Name → Name → Known Value
find_known row q name = known_of (meant (λ b. b.qualifier) (λ b. b.name) q name row)

-- nothing is known of a value that was looked at for a CAVEAT
abbrev pub caveat_known : Known Value → Known Value
caveat_known x = known_then x (λ v. None)

-- what is known of COUNT(*), which stands in groups alone
abbrev pub count_known : {A : Type 0} → Option (Option (List A)) → Known Value
count_known None = Some (Err error.TypeFault)
count_known (Some None) = None
count_known (Some (Some rows)) = Some (Ok (Int (pos (length rows))))

-- what is known of an aggregate of what is known of its operand in each row
abbrev pub over_known : Aggregate → KnownReading → Option (Option (List (List KnownBinding))) → Known Value
over_known op x None = Some (Err error.TypeFault)
over_known op x (Some None) = None
over_known op x (Some (Some rows)) = all_then (Known Value) known_then (λ a. Some a) (map (λ r. x (at_known_row r)) rows) [] (aggregate_of op)

-- what is known of what an expression gives, whatever the picks
unfoldable pub known_meaning : Expr → KnownReading
known_meaning = fold-Expr KnownReading (KnownReading × KnownReading)
    (form KnownReading known_read_then (λ a s. Some a) (λ q name s. find_known s.row q name)
    (λ call x s. caveat_known (x s)) (λ s. count_known s.group) (λ op x s. over_known op x s.group)) (arm_of KnownReading)

-- ---- over a row alone

-- what an expression gives over a row, without marks
abbrev pub plain_over_row : List PlainBinding → List Pick → ℕ → Expr → Answer Value
plain_over_row row picks cell e = plain_meaning picks cell e (at_plain_row row)

-- what an expression gives over a row, with marks
abbrev pub marked_over_row : List Binding → List Pick → ℕ → Expr → Seen Value
marked_over_row row = marked_at (at_row row)

-- what is known of an expression over a row
abbrev pub known_over_row : List KnownBinding → Expr → Known Value
known_over_row row e = known_meaning e (at_known_row row)
