-- What a call answers that may refuse an edit.
use Rattle.std.specs.Prelude.{◌≡◌, Result, Ok, Err}
use Rattle.cell_model.specs.declared.refusal.EditRefusal.{EditRefusal}
use Rattle.edit_wire.specs.declared.edit.EditFault.{EditFault}
use Rattle.edit_wire.specs.declared.edit.EditFault.TheVariants as fault

-- what was given where the answer is a fault: that refusal, or anything where memory ran out
abbrev pub Fails : {Y : Type 0} → EditFault → Result Y EditRefusal → Type 0
Fails fault.NoMemory given = Unit {0}
Fails (fault.Refused refusal) given = given ≡ Err refusal

-- what was answered is what the definition gives, unless memory ran out
abbrev pub Gives : {Y : Type 0} → Result Y EditFault → Result Y EditRefusal → Type 0
Gives (Ok answer) given = given ≡ Ok answer
Gives (Err e) given = Fails e given
