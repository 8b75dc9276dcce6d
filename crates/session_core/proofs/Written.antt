-- What was written of what a line earns.
use Rattle.std.proofs.Common.{◌≡◌, ℕ, List, Option, false, Err}
use Rattle.outside_io.specs.Texts.{AppendsFront}
use Rattle.outside_io.specs.declared.sink.WriteFault.{WriteFault}
use Rattle.outside_io.specs.declared.sink.WriteFault.TheVariants as fault
use Rattle.session_core.specs.Earned.{WritesLine, earned_text, is_starved, status_of}
use Rattle.session_core.specs.declared.earned.Earned.{Earned}

-- a write that failed left some first bytes of the text
pub writes_fault : (f : WriteFault) (line : ℕ) (e : Earned) (old new : Option (List ℕ)) → is_starved e ≡ false → AppendsFront old new (earned_text line e)
    → WritesLine {T = Unit {0}} (Err (status_of f)) line e old new
writes_fault fault.Failed line e old new plain w = (plain, w)
writes_fault fault.NoMemory line e old new plain w = w
