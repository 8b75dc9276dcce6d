-- What an evaluation may answer: what is seen, or want of memory, which is free.
use Rattle.std.specs.Prelude.{◌≡◌, Bool, Result, Ok, Err, Option, List, []}
use Rattle.std.specs.Option.{option_copied}
use denote.Ref.{Bor}
use Rattle.value_types.specs.declared.value.Value.{Value}
use Rattle.dataset_types.specs.declared.row.Marked.{Marked}
use Rattle.cell_errors.specs.declared.fault.EvalFault.{EvalFault}
use Rattle.cell_errors.specs.Answers.{Answer, Fails}
use Rattle.cell_errors.specs.Seen.{Seen}
use Rattle.expr_ops.specs.Places.{placed}
use Rattle.expr_meaning.specs.declared.setting.Setting.{Setting}
use Rattle.expr_meaning.specs.declared.setting.Operands.{Operands}
use Rattle.expr_meaning.specs.Settings.{MarkedSetting}
use Rattle.expr_meaning.specs.Steps.{all_marked}

-- a value with its mark, as it was seen
abbrev pub seen : Marked → Seen Value
seen m = record { marked = m.marked; answer = Ok m.value }

-- what a call answers is what is seen, unless memory ran out
abbrev pub Sees : Result Marked EvalFault → Seen Value → Type 0
Sees (Ok m) s = s ≡ seen m
Sees (Err f) s = Fails f s.answer

-- a value that was looked at, with its mark
abbrev pub seen_as : Bool → Value → Seen Value
seen_as marked value = record { marked = marked; answer = Ok value }

-- the same of a call that leaves the value in a place
abbrev pub Leaves : Result (Unit {0}) EvalFault → Marked → Seen Value → Type 0
Leaves result place s = Sees (placed result place) s

-- the values of all operands, whatever is made of them
abbrev pub SeesAll : Result Operands EvalFault → List (Seen Value) → Type 0
SeesAll (Ok all) xs = (k : List Value → Answer Value) → all_marked xs [] k ≡ record { marked = all.marked; answer = k all.values }
SeesAll (Err f) xs = (k : List Value → Answer Value) → Fails f (all_marked xs [] k).answer

-- what is behind a reference
abbrev pub lent : {A : Type 0} → Answer (Bor A) → Answer A
lent (Ok x) = Ok x.now
lent (Err e) = Err e

-- what is behind a reference, if there is any
abbrev pub lent_option : {A : Type 0} → Answer (Option (Bor A)) → Answer (Option A)
lent_option (Ok x) = Ok (option_copied x)
lent_option (Err e) = Err e

-- a setting of the code as one of the definitions
abbrev pub setting_of : Setting → MarkedSetting
setting_of p = record { row = p.row.now; group = option_copied p.group; marked = p.marked }
