-- What a cell gives that writes, or errs, and how its reads fix that.
use Rattle.std.specs.Prelude.{◌≡◌, ℕ, List, [], Option, None, Result, Ok, Err, false}
use Rattle.dataset_types.specs.declared.slot.Slot.{Slot}
use Rattle.dataset_types.specs.declared.slot.Named.{Named}
use Rattle.cell_errors.specs.Answers.{Answer}
use Rattle.cell_model.specs.declared.cell_result.CellResult.{CellResult}
use Rattle.cell_model.specs.declared.cell_result.CellStatus.TheVariants as status
use Rattle.cell_model.specs.declared.reads.Ended.{Ended}
use Rattle.cell_model.specs.declared.work_fault.WorkFault.{WorkFault}
use Rattle.cell_model.specs.declared.work_fault.WorkFault.TheVariants as fault
use Rattle.cell_model.specs.Reading.{Ends}
use Rattle.cell_model.specs.Runs.{bare}
use Rattle.cell_model.specs.Works.{Fixes}

-- the writes, with no lines and no blur, or the error
abbrev pub written : Answer (List Named) → CellResult
written (Ok writes) = record { status = status.Ok; lines = []; writes = writes; blur = false }
written (Err e) = bare (status.Error e)

-- the result of the writes or the error that a work answered, or its end
abbrev pub concluded : Result (List Named) WorkFault → Result CellResult Ended
concluded (Ok writes) = Ok (written (Ok writes))
concluded (Err (fault.Error e)) = Ok (written (Err e))
concluded (Err (fault.Ended e)) = Err e

-- the reads go on, and what is meant where the names asked have their slots; or the end of the reads
abbrev pub IsResult : ((List ℕ → Slot) → CellResult) → ((List ℕ → Slot) → List (List ℕ)) → Result CellResult Ended → List Named → Option Ended → Type 0
IsResult meaning asks (Ok r) asked end = (end ≡ None) × Fixes meaning asks asked r
IsResult meaning asks (Err e) asked end = Ends e end
